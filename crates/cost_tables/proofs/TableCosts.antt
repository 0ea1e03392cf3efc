-- Laws of the costs that the layers above use in place of the tables: no order and no index costs more than 20480.
use mathlib.Core.Path.{◌≡◌, refl}
use mathlib.Core.Bool.{true}
use mathlib.Core.List.{List, [], ◌∷◌}
use Prim.Native.Nat.{ℕ, zero, suc, ◌+◌, ◌*◌, ◌≤◌}
use native.Mathlib.Omega.{arith}
use lib.Dec.{leb}
use borrow.Author.Tests.{leb-true}
use lib.ListN.{length, get_or}
use Rattle.law_lists.specs.Every.{every}
use Rattle.law_lists.proofs.Every.{and_left, and_right, every_at}
use Rattle.cost_tables.specs.Tables.{cell, of_order, order_bits, coef_bits, cells_from}
use Rattle.cost_tables.specs.Rules.{affordable, within_from, order_costs_affordable, index_costs_affordable, order_costs_within}

-- no number of an affordable table is above 20480
affordable_at : (table : List (List ℕ)) → every affordable table ≡ true → (row column : ℕ) → cell table row column ≤ 20480
unfolding affordable
affordable_at table all row column =
    leb-true _ _ (every_at (λ cost. leb cost 20480) (get_or table row []) (every_at affordable table all [] refl row) 0 refl column)

pub order_cost_affordable : (weighting order : ℕ) → of_order order_bits weighting order ≤ 20480
unfolding of_order
order_cost_affordable weighting zero = omega arith
order_cost_affordable weighting (suc column) = affordable_at order_bits order_costs_affordable weighting column

pub index_costs_at_most : (place : ℕ) (indices : List ℕ) → cells_from coef_bits place indices ≤ 20480 * length indices
unfolding cells_from
index_costs_at_most place [] = omega arith
index_costs_at_most place (i ∷ is) = omega (arith, affordable_at coef_bits index_costs_affordable place i, index_costs_at_most (suc place) is)

within_at : (order : ℕ) (row : List ℕ) → within_from order row ≡ true → (column : ℕ) → order + column ≤ 8 → get_or row column 0 + 20480 * (order + column) ≤ 83 * 2048
unfolding within_from
within_at order [] w column h = omega arith
within_at order (cost ∷ costs) w zero h =
    omega (arith, leb-true (cost + 20480 * order) (83 * 2048) (and_left (leb (cost + 20480 * order) (83 * 2048)) (within_from (suc order) costs) w))
within_at order (cost ∷ costs) w (suc column) h =
    omega (arith, within_at (suc order) costs (and_right (leb (cost + 20480 * order) (83 * 2048)) (within_from (suc order) costs) w) column (omega arith))

-- an order and its indices cost at most 83 whole bits
pub order_cost_at_most : (weighting order : ℕ) → order ≤ 8 → of_order order_bits weighting order + 20480 * order ≤ 83 * 2048
unfolding of_order within_from
order_cost_at_most weighting zero h = omega arith
order_cost_at_most weighting (suc column) h =
    omega (arith, within_at 1 (get_or order_bits weighting []) (every_at (within_from 1) order_bits order_costs_within [] refl weighting) column (omega arith))
