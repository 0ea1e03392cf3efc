-- Any two results that a contract allows for one input coincide: the law of `law_results`, cited for each public function of this crate.
use mathlib.Core.HLevel.{is_prop→PathP}
use mathlib.Core.Path.{◌≡◌, refl, sym, ◌∙◌, ap}
use mathlib.Core.Bool.{true}
use mathlib.Core.List.{List}
use Prim.Native.Nat.{ℕ, ◌≤◌}
use Rattle.std.proofs.Props.{props}
use Rattle.std.specs.Prelude.{Result, Ok, Err, is_none, IfOk}
use Rattle.law_results.proofs.Determined.{Determined}
use Rattle.check_verdicts.specs.Verdicts.{Verdict, refused, verdict_by, on_accepted}
use Rattle.check_verdicts.proofs.Verdicts.{not_accepted}
use Rattle.check_limits.specs.LowestOver.{lowest_over}
use Rattle.check_refusals.specs.Refusals.{says}
use Rattle.check_refusals.specs.declared.Refusal.{Refusal}
use Rattle.check_refusals.proofs.Eight.{of_eight, refusal_back}
use Rattle.check_refusals.proofs.Determined.{by_verdict}
use Rattle.check_side.specs.declared.CheckedSide.{CheckedSide}
use Rattle.check_side.proofs.codes.check_codes.Kinds as check-codes-kinds
use Rattle.check_side.proofs.codes.check_codes.Reads as check-codes-reads
use Rattle.check_side.proofs.check_side.Kinds as check-side-kinds
use Rattle.check_side.proofs.check_side.Reads as check-side-reads

-- checked side data are their numbers
same_numbers : (x y : CheckedSide) → x.filters ≡ y.filters → x.orders ≡ y.orders → x.indices ≡ y.indices → x ≡ y
same_numbers x y f o n =
    λ i. record {
      filters = f i;
      orders = o i;
      indices = n i;
      few = is_prop→PathP (λ j. f j ≤ 2) (λ j. hlevel props) x.few y.few i;
      orders_fine = is_prop→PathP (λ j. is_none (lowest_over 8 0 (o j)) ≡ true) (λ j. hlevel props) x.orders_fine y.orders_fine i;
      indices_fine = is_prop→PathP (λ j. is_none (lowest_over 16 0 (n j)) ≡ true) (λ j. hlevel props) x.indices_fine y.indices_fine i;
    }

same_answer : (filters : ℕ) (orders indices : List ℕ) {v : Verdict (Unit {0})} (x y : Result CheckedSide Refusal)
    → on_accepted (λ _. tt) (verdict_by says x) ≡ v → on_accepted (λ _. tt) (verdict_by says y) ≡ v
    → IfOk x (λ side. (side.filters ≡ filters) × (side.orders ≡ orders) × (side.indices ≡ indices))
    → IfOk y (λ side. (side.filters ≡ filters) × (side.orders ≡ orders) × (side.indices ≡ indices)) → x ≡ y
same_answer filters orders indices (Ok x) (Ok y) p q a b = ap Ok (same_numbers x y (a.0 ∙ sym b.0) (a.1 ∙ sym b.1) (a.2 ∙ sym b.2))
same_answer filters orders indices (Ok x) (Err why) p q a b = not_accepted (q ∙ sym p)
same_answer filters orders indices (Err why) (Ok y) p q a b = not_accepted (p ∙ sym q)
same_answer filters orders indices (Err why) (Err other) p q a b =
    let same : says why ≡ says other = let e : ◌≡◌ {A = Verdict (Unit {0})} (refused (says why)) (refused (says other)) = p ∙ sym q in cc in
    ap Err (sym (of_eight why).back ∙ ap refusal_back same ∙ (of_eight other).back)

check_side : Determined 2 check-side-kinds.ps check-side-kinds.r check-side-reads.Post
check_side κs a x y s t p q = same_answer a.0 a.1.0.now a.1.1.0.now x y p.0 q.0 p.1 q.1

check_codes : Determined 0 check-codes-kinds.ps check-codes-kinds.r check-codes-reads.Post
check_codes κs a x y s t p q = by_verdict p q
