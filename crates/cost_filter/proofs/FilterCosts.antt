-- Laws of a filter's cost that callers use in place of its text: a filter that is off costs nothing and takes one bit, a filter within the limits costs
-- at most 83 * 2048 and takes at most 84 bits, and every sum on the way is below 2 ^ 24. The bounds rest on laws of the tables.
use mathlib.Core.Path.{◌≡◌, refl, sym}
use mathlib.Core.List.{List}
use Prim.Native.Nat.{ℕ, ◌+◌, ◌*◌, ◌^◌, ◌≤◌, ◌<◌}
use native.Mathlib.Omega.{arith}
use lib.ListN.{take, length-take}
use Rattle.cost_tables.specs.Tables.{of_order, cells_from}
use Rattle.cost_tables.proofs.TableCosts.{order_cost_affordable, order_cost_at_most, index_costs_at_most}
use Rattle.cost_filter.specs.FilterCost.{order_cost, index_costs, filter_cost, whole_bits, filter_bits, FilterPriced}

-- a filter of order 0 is off: it costs nothing but the one bit that says so
pub off_free : (weighting : ℕ) (indices : List ℕ) → filter_cost weighting 0 indices ≡ 0
unfolding filter_cost order_cost of_order index_costs cells_from
off_free weighting indices = refl

pub off_priced : (weighting order : ℕ) (indices : List ℕ) → order ≡ 0 → FilterPriced weighting order indices 0
off_priced weighting order indices off = rw off (record { cost = sym (off_free weighting indices); few = λ h. omega arith })

pub off_bits : (weighting : ℕ) (indices : List ℕ) → filter_bits weighting 0 indices ≡ 1
unfolding filter_bits whole_bits
off_bits weighting indices = rw (off_free weighting indices)

pub filter_cost_at_most : (weighting order : ℕ) (indices : List ℕ) → order ≤ 8 → filter_cost weighting order indices ≤ 83 * 2048
unfolding filter_cost order_cost index_costs
filter_cost_at_most weighting order indices h =
    omega (arith, order_cost_at_most weighting order h, index_costs_at_most 0 (take order indices), length-take order indices)

-- whatever the order
pub filter_cost_affordable : (weighting order : ℕ) (indices : List ℕ) → filter_cost weighting order indices ≤ 20480 + 20480 * order
unfolding filter_cost order_cost index_costs
filter_cost_affordable weighting order indices =
    omega (arith, order_cost_affordable weighting order, index_costs_at_most 0 (take order indices), length-take order indices)

-- at most 84 bits a filter
pub whole_bits_at_most : (cost : ℕ) → cost ≤ 83 * 2048 → whole_bits cost ≤ 84
unfolding whole_bits
whole_bits_at_most cost h = omega arith

pub filter_bits_at_most : (weighting order : ℕ) (indices : List ℕ) → order ≤ 8 → filter_bits weighting order indices ≤ 84
unfolding filter_bits
filter_bits_at_most weighting order indices h = whole_bits_at_most (filter_cost weighting order indices) (filter_cost_at_most weighting order indices h)

-- ---- the sums that E works in f32

-- every sum on the way to a filter's bits is below 2 ^ 24: the order's cost with those of the first indices, and E's last sum, with the one bit
-- that it adds before it divides
pub sums_below : (weighting order counted : ℕ) (indices : List ℕ) → order ≤ 8
    → order_cost weighting order + index_costs (take counted (take order indices)) < 2 ^ 24
unfolding order_cost index_costs
sums_below weighting order counted indices h =
    omega (
      arith,
      order_cost_at_most weighting order h,
      index_costs_at_most 0 (take counted (take order indices)),
      length-take counted (take order indices),
      length-take order indices,
    )

pub last_sum_below : (weighting order : ℕ) (indices : List ℕ) → order ≤ 8 → 2048 + filter_cost weighting order indices < 2 ^ 24
last_sum_below weighting order indices h = omega (arith, filter_cost_at_most weighting order indices h)
