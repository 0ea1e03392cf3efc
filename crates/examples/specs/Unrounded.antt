-- docs/RULES.md, "Cost before rounding (C-15)": cases of the planner's call, one list and one statement that the checker computes of the definitions. And
-- that the two ways of rounding are not the same.
use Rattle.std.specs.Prelude.{◌≡◌, refl, Bool, true, false, ◌&&◌, List, [], ◌∷◌, ℕ, ◌+◌, ◌/◌, eqb, replicate, get_or}
use Rattle.law_lists.specs.Every.{every}
use Rattle.law_lists.specs.Counted.{counted, total}
use Rattle.cost_tables.specs.Tables.{of_order, cells_from}
use Rattle.check_verdicts.specs.Verdicts.{unless_refused}
use Rattle.check_side.specs.Sides.{side_checks}
use Rattle.check_limits.specs.LowestOver.{lowest_over}
use Rattle.cost_filter.specs.FilterCost.{filter_bits, whole_bits, filter_cost, order_cost, index_costs}
use Rattle.cost_call.specs.Cost.{cost_of, counted_bits, counted_costs}
use Rattle.cost_parts.specs.Parts.{parts_of}
use Rattle.examples.specs.Marked.{padded}

-- weighting, filter count, orders, indices as in `Marked`; the 2048ths of the first filter and of the second, and the bits
pub data Case : Type 0 where
  tells : ℕ → ℕ → List ℕ → List ℕ → ℕ → ℕ → ℕ → Case

-- index 9 first for each of two filters
abbrev both_nine : List ℕ
both_nine = 9 ∷ 8 ∷ 8 ∷ 8 ∷ 8 ∷ 8 ∷ 8 ∷ 8 ∷ 9 ∷ []

unfoldable pub unrounded : List Case
unrounded =
    tells 0 1 (0 ∷ 0 ∷ []) [] 0 0 1 ∷  -- M1: order 0 costs nothing here
    tells 0 1 (1 ∷ 0 ∷ []) (9 ∷ []) 22871 0 13 ∷  -- M2: 17234 + 5637
    tells 1 1 (1 ∷ 0 ∷ []) (0 ∷ []) 33163 0 18 ∷  -- M3
    tells 0 1 (2 ∷ 0 ∷ []) (7 ∷ 9 ∷ []) 25808 0 14 ∷  -- M4
    tells 1 1 (8 ∷ 0 ∷ []) (replicate 8 0) 168896 0 84 ∷  -- M5
    tells 0 0 (0 ∷ 0 ∷ []) [] 0 0 0 ∷  -- M14
    tells 0 2 (1 ∷ 1 ∷ []) both_nine 22871 22871 26 ∷  -- M2 in both filters
    tells 0 1 (1 ∷ 1 ∷ []) both_nine 22871 0 13 ∷  -- the second is not counted
    tells 0 2 (0 ∷ 1 ∷ []) both_nine 0 22871 14 ∷  -- the first is off
    []

unfoldable pub right : Case → Bool
right (tells weighting filters orders indices first second bits) =
    let parts = parts_of weighting filters orders (padded indices) in
    eqb (get_or parts 0 0) first && eqb (get_or parts 1 0) second && unless_refused (cost_of weighting filters orders (padded indices)) (λ b. eqb b bits) false

pub unrounded_cases_hold : every right unrounded ≡ true
unfolding unrounded right padded parts_of counted_costs cost_of side_checks lowest_over counted_bits counted total filter_bits whole_bits filter_cost order_cost of_order index_costs cells_from
unrounded_cases_hold = refl

-- the easy error: M2 in both filters would take 25 bits and not 26, were both rounded up together
pub together_is_less : 2 + (total (counted_costs 0 2 (1 ∷ 1 ∷ []) (padded both_nine)) + 2047) / 2048 ≡ 25
unfolding padded counted_costs counted total filter_cost order_cost of_order index_costs cells_from
together_is_less = refl
