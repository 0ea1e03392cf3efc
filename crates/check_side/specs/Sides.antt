-- docs/RULES.md, "Refusal numbers": the checks that decide 1 and 2, of a frame's codes, and 4 to 7, of side data.
use Rattle.std.specs.Prelude.{◌≡◌, ◌||◌, not, List, ℕ, ◌≤◌, ltb, eqb, length, Option, Some, None}
use Rattle.check_verdicts.specs.Verdicts.{Verdict, refused, placed, check}
use Rattle.check_limits.specs.LowestOver.{lowest_over}
use Rattle.check_limits.specs.declared.Over.{Over}

-- a check whose refusal names the lowest bad place and the number found there
abbrev pub check_at : {A : Type 0} → ℕ → Option Over → Verdict A → Verdict A
check_at number None next = next
check_at number (Some over) next = refused (placed number over.place over.found)

-- 1: duration code is not 0 or 1. 2: bandwidth over 4
abbrev pub code_checks : {A : Type 0} → ℕ → ℕ → Verdict A → Verdict A
code_checks duration bandwidth next = check 1 (ltb 1 duration) (check 2 (ltb 4 bandwidth) next)

-- 4: not two orders, or not sixteen indices. 5: a filter count above 2. 6: an order above 8. 7: an index above 16; of 6 and 7 also what no filter uses
unfoldable pub side_checks : {A : Type 0} → ℕ → List ℕ → List ℕ → Verdict A → Verdict A
side_checks filters orders indices next =
    check 4 (not (eqb (length orders) 2) || not (eqb (length indices) 16))
    (check 5 (ltb 2 filters)
    (check_at 6 (lowest_over 8 0 orders)
    (check_at 7 (lowest_over 16 0 indices)
    next)))

-- Side data that none of these checks refuses. Behind a door this may be relied on.
pub record SoundSide (filters : ℕ) (orders indices : List ℕ) : Type 0 where
  pub two_orders : length orders ≡ 2
  pub sixteen_indices : length indices ≡ 16
  pub count_at_most_2 : filters ≤ 2
  pub orders_at_most_8 : lowest_over 8 0 orders ≡ None
  pub indices_at_most_16 : lowest_over 16 0 indices ≡ None
