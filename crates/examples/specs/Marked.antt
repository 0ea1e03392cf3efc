-- docs/RULES.md, "Marked cases", M1 to M14: one list, and one statement that the checker computes of the definitions.
use Rattle.std.specs.Prelude.{◌≡◌, refl, Bool, true, false, List, [], ◌∷◌, ◌++◌, ℕ, ◌-◌, eqb, length, replicate, Float}
use Rattle.std.specs.Float.{nan, binary32}
use Rattle.std.specs.Float.Ieee.{neg, le, of_bits}
use Rattle.law_lists.specs.Every.{every}
use Rattle.cost_tables.specs.Tables.{of_order, cells_from}
use Rattle.law_rounding.specs.Floats.{f1}
use Rattle.index_choice.specs.Indices.{index_of, not_above}
use Rattle.check_verdicts.specs.Verdicts.{unless_refused}
use Rattle.check_side.specs.Sides.{side_checks}
use Rattle.check_limits.specs.LowestOver.{lowest_over}
use Rattle.law_lists.specs.Counted.{counted, total}
use Rattle.cost_call.specs.Cost.{cost_of, counted_bits}
use Rattle.cost_filter.specs.FilterCost.{filter_bits, whole_bits, filter_cost, order_cost, index_costs}
use Rattle.row_durations.specs.Durations.{weighting_of, numbers_of}
use Rattle.row_durations.specs.declared.Duration.{Duration}
use Rattle.row_durations.specs.declared.Duration.TheVariants.{Ten, SevenPointFive}

-- an input and the result that the table gives for it
pub data Case : Type 0 where
  -- weighting, filter count, orders, the indices that are not 8 from the first on; bits
  costs : ℕ → ℕ → List ℕ → List ℕ → ℕ → Case
  -- duration, bit number; weighting
  weighs : Duration → ℕ → ℕ → Case
  -- coefficient; index
  quantizes : Float → ℕ → Case

unfoldable pub marked : List Case
marked =
    costs 0 1 (0 ∷ 0 ∷ []) [] 1 ∷  -- M1: one filter, order 0
    costs 0 1 (1 ∷ 0 ∷ []) (9 ∷ []) 13 ∷  -- M2
    costs 1 1 (1 ∷ 0 ∷ []) (0 ∷ []) 18 ∷  -- M3
    costs 0 1 (2 ∷ 0 ∷ []) (7 ∷ 9 ∷ []) 14 ∷  -- M4
    costs 1 1 (8 ∷ 0 ∷ []) (replicate 8 0) 84 ∷  -- M5
    weighs Ten 479 1 ∷  -- M6
    weighs Ten 480 0 ∷  -- M7
    weighs SevenPointFive 359 1 ∷  -- M8
    weighs SevenPointFive 360 0 ∷  -- M9
    quantizes f1 16 ∷  -- M10
    quantizes (neg f1) 0 ∷  -- M11
    quantizes nan 8 ∷  -- M12
    quantizes (of_bits binary32 0x3fc00000) 8 ∷  -- M13: 1.5
    costs 0 0 (0 ∷ 0 ∷ []) [] 0 ∷  -- M14: no filter
    []

-- sixteen indices, 8 after those given
unfoldable pub padded : List ℕ → List ℕ
padded indices = indices ++ replicate (16 - length indices) 8

unfoldable pub right : Case → Bool
right (costs weighting filters orders indices bits) = unless_refused (cost_of weighting filters orders (padded indices)) (λ b. eqb b bits) false
right (weighs duration nbits weighting) = eqb (weighting_of (numbers_of duration) nbits) weighting
right (quantizes x index) = eqb (index_of x) index

pub marked_cases_hold : every right marked ≡ true
unfolding marked right padded cost_of side_checks lowest_over counted_bits counted total filter_bits whole_bits filter_cost order_cost of_order index_costs cells_from weighting_of index_of not_above le neg of_bits
marked_cases_hold = refl
