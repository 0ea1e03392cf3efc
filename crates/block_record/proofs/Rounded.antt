-- C-15: the bits of a sound record round each counted filter up on its own, by the law of cost_call.
use mathlib.Core.Path.{◌≡◌, refl, sym, ◌∙◌}
use mathlib.Core.Bool.{Bool, true, false}
use mathlib.Core.List.{List, [], ◌∷◌, ◌++◌}
use Prim.Native.Nat.{ℕ}
use native.Mathlib.Omega.{arith}
use borrow.Author.Tests.{eqb-true}
use lib.Dec.{eqb, ltb}
use lib.ListN.{length}
use Rattle.law_lists.proofs.Every.{and_right}
use Rattle.check_verdicts.specs.Verdicts.{Verdict, accepted, refused, unless_refused}
use Rattle.check_verdicts.proofs.Verdicts.{check_by}
use Rattle.law_lists.specs.Counted.{counted, total}
use Rattle.check_limits.specs.LowestOver.{lowest_over}
use Rattle.check_side.specs.Sides.{side_checks}
use Rattle.cost_tables.specs.Tables.{of_order, cells_from}
use Rattle.cost_filter.specs.FilterCost.{order_cost, index_costs, filter_cost, whole_bits, filter_bits}
use Rattle.cost_call.specs.Cost.{counted_bits, counted_costs, each_rounded, cost_of}
use Rattle.cost_bytes.specs.SideBytes.{Fields, cost_of_fields}
use Rattle.cost_bytes.proofs.Rounded.{costs_of_fields, fields_rounded, nine}
use Rattle.block_record.specs.RecordBytes.{recorded_of, recorded_cost, sound_record}

-- bits that are found to be a verdict's
abbrev Told : ℕ → Verdict ℕ → Bool
Told bits verdict = unless_refused verdict (λ cost. eqb cost bits) false

no_bits : {C : Type 0} → false ≡ true → C
no_bits e = let z : ◌≡◌ {A = ℕ} 0 1 = cc in absurd (omega arith)

-- what is to be shown of a verdict on some side data
abbrev Rounds : Fields → ℕ → Verdict ℕ → Type 0
Rounds side bits verdict = Told bits verdict ≡ true → bits ≡ each_rounded (costs_of_fields side)

of_cost : (side : Fields) (bits : ℕ) (verdict : Verdict ℕ) → verdict ≡ cost_of_fields side → Rounds side bits verdict
of_cost side bits (accepted cost) e told = sym (eqb-true cost bits told) ∙ fields_rounded side cost e
of_cost side bits (refused fault) e told = no_bits told

pub record_rounded : (bytes : List ℕ) → sound_record bytes ≡ true → (recorded_of bytes).bits ≡ each_rounded (costs_of_fields (recorded_of bytes).side)
unfolding sound_record
record_rounded bytes sound =
    let kept = recorded_of bytes in
    check_by (Rounds kept.side kept.bits) 1 (ltb 1 kept.duration) _ no_bits
    (λ e. check_by (Rounds kept.side kept.bits) 2 (ltb 4 kept.bandwidth) _ no_bits
    (λ e. of_cost kept.side kept.bits (cost_of_fields kept.side) refl))
    (and_right (eqb (length bytes) 24) (Told kept.bits (recorded_cost kept)) sound)

-- a case that tells both ways of rounding apart: order 1 and index 9 in two filters, each of which takes 13 bits; rounded up together they would take 25
unfoldable two_nines : ℕ → List ℕ
two_nines bits = 0 ∷ 0 ∷ 2 ∷ 0 ∷ 1 ∷ 1 ∷ nine ++ nine ++ bits ∷ 0 ∷ []

sound_at_26 : (sound_record (two_nines 26) ≡ true) × (sound_record (two_nines 25) ≡ false)
unfolding two_nines sound_record cost_of side_checks lowest_over counted_bits counted_costs counted total filter_bits whole_bits filter_cost order_cost of_order index_costs cells_from
sound_at_26 = (refl, refl)
