-- docs/RULES.md, "Cost" and "Cost before rounding (C-15)": what one filter costs in 2048ths of a bit, and the bits of that.
use Rattle.std.specs.Prelude.{◌≡◌, List, ℕ, ◌+◌, ◌*◌, ◌/◌, ◌≤◌, take}
use Rattle.cost_tables.specs.Tables.{of_order, order_bits, coef_bits, cells_from}

-- Table T: what an order costs, and what some indices cost, each at its place from the first on, in 2048ths of a bit
unfoldable pub order_cost : ℕ → ℕ → ℕ
order_cost weighting order = of_order order_bits weighting order

unfoldable pub index_costs : List ℕ → ℕ
index_costs indices = cells_from coef_bits 0 indices

-- in 2048ths: the cost of the order, and of each index at a place below it
unfoldable pub filter_cost : ℕ → ℕ → List ℕ → ℕ
filter_cost weighting order indices = order_cost weighting order + index_costs (take order indices)

-- C-15: the bits of such a cost: one bit, and the cost rounded up to whole bits
unfoldable pub whole_bits : ℕ → ℕ
whole_bits cost = 1 + (cost + 2047) / 2048

-- the bits of one filter
unfoldable pub filter_bits : ℕ → ℕ → List ℕ → ℕ
filter_bits weighting order indices = whole_bits (filter_cost weighting order indices)

-- What is promised of the bits of a cost: these are the definition's, and at most 84.
pub record RoundedUp (cost result : ℕ) : Type 0 where
  pub bits : result ≡ whole_bits cost
  pub few : result ≤ 84

-- What is promised of one filter's cost: it is the definition's, and at most 83 * 2048 up to order 8.
pub record FilterPriced (weighting order : ℕ) (indices : List ℕ) (result : ℕ) : Type 0 where
  pub cost : result ≡ filter_cost weighting order indices
  pub few : order ≤ 8 → result ≤ 83 * 2048
