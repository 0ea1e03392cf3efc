-- Any two results that a contract allows for one input coincide: the law of `law_results`, cited for each public function of this crate.
use mathlib.Core.Path.{◌≡◌, refl, ◌∙◌, ap}
use mathlib.Core.Bool.{cond}
use Prim.Native.Nat.{◌≤◌}
use native.Mathlib.Nat.{lt_irrefl}
use native.Mathlib.Omega.{arith}
use lib.Dec.{eqb}
use borrow.Author.Tests.{ne_eqb}
use Rattle.std.specs.Prelude.{Result}
use Rattle.check_verdicts.specs.Verdicts.{Fault, numbered, placed, Verdict, number_of, verdict_by}
use Rattle.check_verdicts.proofs.Verdicts.{verdict_back, verdict_again}
use Rattle.check_refusals.specs.Refusals.{says}
use Rattle.check_refusals.proofs.Eight.{refusal_back, of_eight}
use Rattle.law_results.proofs.Determined.{Determined, coincide}
use Rattle.check_line.specs.LineChecks.{line_says}
use Rattle.check_line.specs.declared.LineRefusal.{LineRefusal}
use Rattle.check_line.specs.declared.LineRefusal.TheVariants.{Call, Line, OutputLength}
use Rattle.check_line.proofs.check_line.Kinds as check-line-kinds
use Rattle.check_line.proofs.check_line.Reads as check-line-reads

-- the refusal of a call at a line back from its fault
abbrev pub line_refusal_back : Fault → LineRefusal
line_refusal_back (numbered n) = cond (eqb n 16) Line (cond (eqb n 17) OutputLength (Call (refusal_back (numbered n))))
line_refusal_back (placed n place found) = Call (refusal_back (placed n place found))

-- a fault that every decode call can have is neither 16 nor 17
of_a_call : (fault : Fault) → number_of fault ≤ 8 → line_refusal_back fault ≡ Call (refusal_back fault)
of_a_call (numbered n) h =
    let not_16 : n ≡ 16 → ⊥ = λ e. lt_irrefl n (omega arith) in
    let not-17 : n ≡ 17 → ⊥ = λ e. lt_irrefl n (omega arith) in
    simp (ne_eqb n 16 not_16, ne_eqb n 17 not-17)
of_a_call (placed n place found) h = refl

pub line_refusal_back_lem : (why : LineRefusal) → line_refusal_back (line_says why) ≡ why
line_refusal_back_lem (Call why) = of_a_call (says why) (of_eight why).at_most_8 ∙ ap Call (of_eight why).back
line_refusal_back_lem Line = refl
line_refusal_back_lem OutputLength = refl

-- two results that come to one verdict, where an error says the refusal of a call at a line
pub by_line_verdict : {A : Type 0} {x y : Result A LineRefusal} {v : Verdict A} → verdict_by line_says x ≡ v → verdict_by line_says y ≡ v → x ≡ y
by_line_verdict p q = coincide (verdict_by line_says) (verdict_back line_refusal_back) (verdict_again line_says line_refusal_back line_refusal_back_lem) p q

check_line : Determined 0 check-line-kinds.ps check-line-kinds.r check-line-reads.Post
check_line κs a x y s t p q = by_line_verdict p q
