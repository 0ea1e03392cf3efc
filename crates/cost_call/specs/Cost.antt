-- docs/RULES.md, "Cost" and "Cost before rounding (C-15)": what the side data of a frame costs in bits, what each filter costs before it is rounded, and
-- the answer of the cost call.
use Rattle.std.specs.Prelude.{◌≡◌, List, map, ℕ, ◌≤◌, ltb, Result}
use Rattle.law_lists.specs.Counted.{counted, total}
use Rattle.cost_filter.specs.FilterCost.{filter_cost, whole_bits, filter_bits}
use Rattle.check_verdicts.specs.Verdicts.{Verdict, accepted, verdict_by, bits_in, its_bits, check}
use Rattle.check_side.specs.Sides.{side_checks}
use Rattle.check_refusals.specs.Refusals.{says}
use Rattle.check_refusals.specs.declared.Refusal.{Refusal}

-- per counted filter
unfoldable pub counted_bits : ℕ → ℕ → List ℕ → List ℕ → ℕ
counted_bits weighting filters orders indices = total (counted (filter_bits weighting) filters orders indices)

-- C-15: the cost of each counted filter, in 2048ths of a bit, and the bits of some costs, of which each is rounded up on its own
unfoldable pub counted_costs : ℕ → ℕ → List ℕ → List ℕ → List ℕ
counted_costs weighting filters orders indices = counted (filter_cost weighting) filters orders indices

unfoldable pub each_rounded : List ℕ → ℕ
each_rounded costs = total (map whole_bits costs)

-- the cost call: the checks in number order, 8 being a weighting over 1, and then the bits
unfoldable pub cost_of : ℕ → ℕ → List ℕ → List ℕ → Verdict ℕ
cost_of weighting filters orders indices =
    side_checks filters orders indices
    (check 8 (ltb 1 weighting)
    (accepted (counted_bits weighting filters orders indices)))

-- What is promised of it: it says the definition's verdict, and never more than 168 bits.
pub record Priced (verdict : Verdict ℕ) (result : Result ℕ Refusal) : Type 0 where
  pub answer : verdict_by says result ≡ verdict
  pub few : bits_in its_bits (verdict_by says result) ≤ 168
