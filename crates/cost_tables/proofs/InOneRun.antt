-- What the test of the costs in one run becomes: a law of every place and index.
use mathlib.Core.Path.{◌≡◌, refl, ◌∙◌, ap}
use mathlib.Core.Bool.{true}
use mathlib.Core.List.{List, [], ◌∷◌}
use Prim.Native.Nat.{ℕ, zero, suc, ◌+◌, ◌*◌, ◌<◌}
use native.Mathlib.Omega.{arith}
use lib.Dec.{eqb}
use borrow.Author.Tests.{eqb-true}
use lib.ListN.{length, get_or}
use Rattle.law_lists.proofs.Every.{and_left, and_right}
use Rattle.cost_tables.specs.Tables.{cell, wide, coef_bits, in_one_run}
use Rattle.cost_tables.specs.Rules.{row_in, rows_in, index_costs_in_one_run}

module _ (run : List ℕ) where
  -- a number of the run, reached in two ways
  same_number : (i j number : ℕ) → i ≡ j → get_or run i 0 ≡ number → get_or run j 0 ≡ number
  same_number i j number e h = ap (λ (k : ℕ). get_or run k 0) (omega (arith, e)) ∙ h

  in_row : (at : ℕ) (row : List ℕ) → row_in run at row ≡ true → (column : ℕ) → column < length row → get_or run (at + column) 0 ≡ get_or row column 0
  unfolding row_in
  in_row at [] t column h = absurd (omega arith)
  in_row at (cost ∷ costs) t zero h =
      same_number at (at + 0) cost (omega arith) (eqb-true (get_or run at 0) cost (and_left (eqb (get_or run at 0) cost) (row_in run (suc at) costs) t))
  in_row at (cost ∷ costs) t (suc column) h =
      same_number (suc at + column) (at + suc column) (get_or costs column 0) (omega arith)
      (in_row (suc at) costs (and_right (eqb (get_or run at 0) cost) (row_in run (suc at) costs) t) column (omega arith))

  in_rows : (k : ℕ) (table : List (List ℕ)) → rows_in run k table ≡ true → (row column : ℕ) → column < length (get_or table row [])
      → get_or run (17 * (k + row) + column) 0 ≡ cell table row column
  unfolding rows_in
  in_rows k [] t row column h = absurd (omega arith)
  in_rows k (first ∷ rows) t zero column h =
      same_number (17 * k + column) (17 * (k + 0) + column) (get_or first column 0) (omega arith)
      (in_row (17 * k) first (and_left (row_in run (17 * k) first) (rows_in run (suc k) rows) t) column h)
  in_rows k (first ∷ rows) t (suc row) column h =
      same_number (17 * (suc k + row) + column) (17 * (k + suc row) + column) (cell rows row column) (omega arith)
      (in_rows (suc k) rows (and_right (row_in run (17 * k) first) (rows_in run (suc k) rows) t) row column h)

-- each row of a table has its columns
columns : (n : ℕ) (table : List (List ℕ)) → wide n table ≡ true → (row : ℕ) → row < length table → length (get_or table row []) ≡ n
columns n [] w row h = absurd (omega arith)
columns n (first ∷ rows) w zero h = eqb-true (length first) n (and_left (eqb (length first) n) (wide n rows) w)
columns n (first ∷ rows) w (suc row) h = columns n rows (and_right (eqb (length first) n) (wide n rows) w) row (omega arith)

-- the cost of an index at a place is at 17 * place + index of the run
pub run_at : (place index : ℕ) → place < 8 → index < 17 → get_or (in_one_run coef_bits) (17 * place + index) 0 ≡ cell coef_bits place index
run_at place index h k =
    same_number (in_one_run coef_bits) (17 * (0 + place) + index) (17 * place + index) (cell coef_bits place index) (omega arith)
    (in_rows (in_one_run coef_bits) 0 coef_bits index_costs_in_one_run place index (omega (arith, columns 17 coef_bits refl place h)))
