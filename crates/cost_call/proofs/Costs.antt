-- Laws of the cost that callers use in place of its text: two filters within the limits cost at most 168 bits, what the cost call says is one of five
-- refusals or the bits of sound side data, bits add up filter by filter, and each filter's cost is rounded up on its own. They rest on the laws of one
-- filter.
use mathlib.Core.Path.{◌≡◌, refl, sym, ◌∙◌, ap}
use mathlib.Core.List.{List, [], ◌∷◌, ◌++◌}
use Prim.Native.Nat.{ℕ, zero, suc, ◌+◌, ◌*◌, ◌≤◌, ◌<◌}
use lib.Dec.{ltb}
use native.Mathlib.Omega.{arith}
use lib.ListN.{get_or, take, drop, replicate}
use lib.Seq.{get_or-drop}
use Rattle.law_lists.specs.Counted.{counted, total}
use Rattle.law_lists.specs.Every.{EachAtMost}
use Rattle.law_lists.proofs.Counted.{counted_more, counted_mapped, total_append}
use Rattle.check_verdicts.specs.Verdicts.{numbered, placed, Verdict, accepted, refused, bits_in, its_bits}
use Rattle.check_side.specs.Sides.{SoundSide}
use Rattle.check_verdicts.proofs.Verdicts.{check_by, not_accepted}
use Rattle.check_side.proofs.Checks.{sides_by}
use Rattle.check_limits.proofs.Stands.{none_over}
use Rattle.cost_tables.specs.Tables.{of_order, cells_from}
use Rattle.cost_filter.specs.FilterCost.{order_cost, index_costs, filter_cost, whole_bits, filter_bits}
use Rattle.cost_filter.proofs.FilterCosts.{off_bits, filter_cost_at_most, filter_bits_at_most}
use Rattle.cost_call.specs.Cost.{counted_bits, counted_costs, each_rounded, cost_of}

-- at most 84 bits for each counted filter
pub counted_bits_at_most : (weighting filters : ℕ) (orders indices : List ℕ) → EachAtMost 8 orders → counted_bits weighting filters orders indices ≤ 84 * filters
unfolding counted_bits counted total
counted_bits_at_most weighting zero orders indices few = omega arith
counted_bits_at_most weighting (suc filters) orders indices few =
    omega (
      arith,
      filter_bits_at_most weighting (get_or orders 0 0) (take 8 indices) (few 0),
      counted_bits_at_most weighting filters (drop 1 orders) (drop 8 indices) (λ i. rw (get_or-drop 1 orders i 0) (few (1 + i))),
    )

-- at most 168 bits for side data that no check refuses
pub counted_at_most : (weighting filters : ℕ) (orders indices : List ℕ) → SoundSide filters orders indices → counted_bits weighting filters orders indices ≤ 168
counted_at_most weighting filters orders indices sound =
    omega (arith, counted_bits_at_most weighting filters orders indices (none_over 8 0 orders sound.orders_at_most_8), sound.count_at_most_2)

-- ---- what the cost call says

-- what holds of each refusal that it can give, and of the bits of sound side data, holds of what it says
pub cost_by : (P : Verdict ℕ → Type 0) (weighting filters : ℕ) (orders indices : List ℕ) → P (refused (numbered 4)) → P (refused (numbered 5))
    → ((place : ℕ) → place < 2 → P (refused (placed 6 place (get_or orders place 0))))
    → ((place : ℕ) → place < 16 → P (refused (placed 7 place (get_or indices place 0))))
    → P (refused (numbered 8)) → (SoundSide filters orders indices → P (accepted (counted_bits weighting filters orders indices)))
    → P (cost_of weighting filters orders indices)
unfolding cost_of
cost_by P weighting filters orders indices stops4 stops5 stops6 stops7 stops8 goes =
    sides_by P filters orders indices _ stops4 stops5 stops6 stops7 (λ sound. check_by P 8 (ltb 1 weighting) _ stops8 (λ e. goes sound))

-- what is priced is sound
pub cost_sound : (weighting filters : ℕ) (orders indices : List ℕ) (bits : ℕ) → accepted bits ≡ cost_of weighting filters orders indices
    → SoundSide filters orders indices
cost_sound weighting filters orders indices bits =
    cost_by (λ v. accepted bits ≡ v → SoundSide filters orders indices) weighting filters orders indices
    (λ e. not_accepted (sym e))
    (λ e. not_accepted (sym e))
    (λ place h e. not_accepted (sym e))
    (λ place h e. not_accepted (sym e))
    (λ e. not_accepted (sym e))
    (λ sound e. sound)

-- at most 168 bits in all
pub cost_at_most : (weighting filters : ℕ) (orders indices : List ℕ) → bits_in its_bits (cost_of weighting filters orders indices) ≤ 168
cost_at_most weighting filters orders indices =
    cost_by (λ v. bits_in its_bits v ≤ 168) weighting filters orders indices
    (omega arith)
    (omega arith)
    (λ place h. omega arith)
    (λ place h. omega arith)
    (omega arith)
    (counted_at_most weighting filters orders indices)

-- ---- the bits, filter by filter

-- one filter more: its bits are added
pub one_more : (weighting n : ℕ) (orders indices : List ℕ)
    → counted_bits weighting (suc n) orders indices ≡ counted_bits weighting n orders indices + filter_bits weighting (get_or orders n 0) (take 8 (drop (8 * n) indices))
unfolding counted_bits total
one_more weighting n orders indices =
    let last = filter_bits weighting (get_or orders n 0) (take 8 (drop (8 * n) indices)) in
    omega (
      arith,
      ap total (counted_more (filter_bits weighting) n orders indices),
      total_append (counted (filter_bits weighting) n orders indices) (last ∷ []),
    )

-- filters that are off cost a bit each
pub all_off : (weighting n : ℕ) (orders indices : List ℕ) → ((i : ℕ) → get_or orders i 0 ≡ 0) → counted_bits weighting n orders indices ≡ n
unfolding counted_bits counted total
all_off weighting zero orders indices off = refl
all_off weighting (suc n) orders indices off =
    let next = all_off weighting n orders indices off in
    let bit : filter_bits weighting (get_or orders n 0) (take 8 (drop (8 * n) indices)) ≡ 1 = rw (off n) (off_bits weighting (take 8 (drop (8 * n) indices))) in
    omega (arith, one_more weighting n orders indices, next, bit)

-- ---- the bits, from costs that are not rounded (C-15)

-- The law of rounding: the bits of side data are those of its counted filters' costs, each of which is rounded up on its own. Every place that gives
-- bits cites it, or `cost_rounded` below: the cost call here, the bits program (cost_bytes), the records (block_record), the encoder's result (side_data,
-- call_encode), the planner's call (cost_parts).
pub each_rounded_lem : (weighting filters : ℕ) (orders indices : List ℕ)
    → counted_bits weighting filters orders indices ≡ each_rounded (counted_costs weighting filters orders indices)
unfolding counted_bits each_rounded counted_costs filter_bits
each_rounded_lem weighting filters orders indices = ap total (sym (counted_mapped whole_bits (filter_cost weighting) filters orders indices))

-- a case that tells both ways of rounding apart: order 1 and index 9 in two filters, each of which takes 13 bits; rounded up together they would take 25
two_nines : counted_bits 0 2 (1 ∷ 1 ∷ []) (9 ∷ replicate 7 8 ++ 9 ∷ replicate 7 8) ≡ 26
unfolding counted_bits counted total filter_bits whole_bits filter_cost order_cost of_order index_costs cells_from
two_nines = refl

-- the bits of an accepted cost call
pub cost_rounded : (weighting filters : ℕ) (orders indices : List ℕ) (bits : ℕ) → accepted bits ≡ cost_of weighting filters orders indices
    → bits ≡ each_rounded (counted_costs weighting filters orders indices)
cost_rounded weighting filters orders indices =
    cost_by (λ v. (bits : ℕ) → accepted bits ≡ v → bits ≡ each_rounded (counted_costs weighting filters orders indices)) weighting filters orders indices
    (λ bits e. not_accepted (sym e))
    (λ bits e. not_accepted (sym e))
    (λ place h bits e. not_accepted (sym e))
    (λ place h bits e. not_accepted (sym e))
    (λ bits e. not_accepted (sym e))
    (λ sound bits e. let same : bits ≡ counted_bits weighting filters orders indices = cc in same ∙ each_rounded_lem weighting filters orders indices)

-- no counted filter of sound side data costs more than 83 * 2048
pub costs_at_most : (weighting filters : ℕ) (orders indices : List ℕ) → EachAtMost 8 orders → EachAtMost (83 * 2048) (counted_costs weighting filters orders indices)
unfolding counted_costs counted
costs_at_most weighting zero orders indices few place = omega arith
costs_at_most weighting (suc filters) orders indices few zero = filter_cost_at_most weighting (get_or orders 0 0) (take 8 indices) (few 0)
costs_at_most weighting (suc filters) orders indices few (suc place) =
    costs_at_most weighting filters (drop 1 orders) (drop 8 indices) (λ i. rw (get_or-drop 1 orders i 0) (few (1 + i))) place
