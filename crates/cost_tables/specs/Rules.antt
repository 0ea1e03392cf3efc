-- The rules of T's costs, each one test that the checker computes over a whole table: what the bounds of docs/RULES.md, "Cost" (84 bits a filter, 168
-- a call) rest on, and where a cost is in one run.
use Rattle.std.specs.Prelude.{◌≡◌, refl, Bool, true, ◌&&◌, List, [], ◌∷◌, ℕ, suc, ◌+◌, ◌*◌, eqb, leb, get_or}
use Rattle.law_lists.specs.Every.{every}
use Rattle.cost_tables.specs.Tables.{order_bits, coef_bits, in_one_run}

-- no order and no index costs more than 20480
unfoldable pub affordable : List ℕ → Bool
affordable = every (λ cost. leb cost 20480)

pub order_costs_affordable : every affordable order_bits ≡ true
unfolding affordable
order_costs_affordable = refl

pub index_costs_affordable : every affordable coef_bits ≡ true
unfolding affordable
index_costs_affordable = refl

-- An order's cost and 20480 for each of its indices stay within 83 whole bits. The order is counted from the one given.
unfoldable pub within_from : ℕ → List ℕ → Bool
within_from order [] = true
within_from order (cost ∷ costs) = leb (cost + 20480 * order) (83 * 2048) && within_from (suc order) costs

pub order_costs_within : every (within_from 1) order_bits ≡ true
unfolding within_from
order_costs_within = refl

-- C-17: in one run of the eight rows of seventeen, what index i costs at place k is at 17k + i. `row_in` compares one row with the run, from number
-- `at` of the run on, and `rows_in` the rows from that of place k on.
unfoldable pub row_in : List ℕ → ℕ → List ℕ → Bool
row_in run at [] = true
row_in run at (cost ∷ costs) = eqb (get_or run at 0) cost && row_in run (suc at) costs

unfoldable pub rows_in : List ℕ → ℕ → List (List ℕ) → Bool
rows_in run k [] = true
rows_in run k (row ∷ rows) = row_in run (17 * k) row && rows_in run (suc k) rows

pub index_costs_in_one_run : rows_in (in_one_run coef_bits) 0 coef_bits ≡ true
unfolding rows_in row_in in_one_run
index_costs_in_one_run = refl
