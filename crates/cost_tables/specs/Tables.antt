-- The costs of T, `temporal_noise_shaping_tables.rs`, as lists of rows, and how a number is read out of a table.
use Rattle.std.specs.Prelude.{Bool, true, ◌&&◌, List, [], ◌∷◌, ◌++◌, ℕ, zero, suc, ◌+◌, eqb, get_or, length}

-- the number of a table at a row and a column, and 0 outside the table
abbrev pub cell : List (List ℕ) → ℕ → ℕ → ℕ
cell table row column = get_or (get_or table row []) column 0

-- each row has as many columns
abbrev pub wide : ℕ → List (List ℕ) → Bool
wide columns [] = true
wide columns (row ∷ rows) = eqb (length row) columns && wide columns rows

-- The number that an order table has for a weighting and an order. Its columns begin at order 1, so order 0 reads 0.
unfoldable pub of_order : List (List ℕ) → ℕ → ℕ → ℕ
of_order table weighting zero = 0
of_order table weighting (suc order) = cell table weighting order

-- AC_TNS_ORDER_BITS: what an order costs, in 2048ths of a bit. A row for each weighting, a column for each order from 1
abbrev pub order_bits : List (List ℕ)
order_bits =
    (17234 ∷ 13988 ∷ 11216 ∷ 8694 ∷ 6566 ∷ 4977 ∷ 3961 ∷ 3040 ∷ []) ∷
    (12683 ∷ 9437 ∷ 6874 ∷ 5541 ∷ 5121 ∷ 5170 ∷ 5359 ∷ 5056 ∷ []) ∷
    []

-- AC_TNS_COEF_BITS: what an index costs, in 2048ths of a bit. A row for each place, a column for each index
abbrev pub coef_bits : List (List ℕ)
coef_bits =
    (20480 ∷ 15725 ∷ 12479 ∷ 10334 ∷ 8694 ∷ 7320 ∷ 6964 ∷ 6335 ∷ 5504 ∷ 5637 ∷ 6566 ∷ 6758 ∷ 8433 ∷ 11348 ∷ 15186 ∷ 20480 ∷ 20480 ∷ []) ∷
    (20480 ∷ 20480 ∷ 20480 ∷ 20480 ∷ 12902 ∷ 9368 ∷ 7057 ∷ 5901 ∷ 5254 ∷ 5485 ∷ 5598 ∷ 6076 ∷ 7608 ∷ 10742 ∷ 15186 ∷ 20480 ∷ 20480 ∷ []) ∷
    (20480 ∷ 20480 ∷ 20480 ∷ 20480 ∷ 13988 ∷ 9368 ∷ 6702 ∷ 4841 ∷ 4585 ∷ 4682 ∷ 5859 ∷ 7764 ∷ 12109 ∷ 20480 ∷ 20480 ∷ 20480 ∷ 20480 ∷ []) ∷
    (20480 ∷ 20480 ∷ 20480 ∷ 20480 ∷ 18432 ∷ 13396 ∷ 8982 ∷ 4767 ∷ 3779 ∷ 3658 ∷ 6335 ∷ 9656 ∷ 13988 ∷ 20480 ∷ 20480 ∷ 20480 ∷ 20480 ∷ []) ∷
    (20480 ∷ 20480 ∷ 20480 ∷ 20480 ∷ 20480 ∷ 14731 ∷ 9437 ∷ 4275 ∷ 3249 ∷ 3493 ∷ 8483 ∷ 13988 ∷ 17234 ∷ 20480 ∷ 20480 ∷ 20480 ∷ 20480 ∷ []) ∷
    (20480 ∷ 20480 ∷ 20480 ∷ 20480 ∷ 20480 ∷ 20480 ∷ 12902 ∷ 4753 ∷ 3040 ∷ 2953 ∷ 9105 ∷ 15725 ∷ 20480 ∷ 20480 ∷ 20480 ∷ 20480 ∷ 20480 ∷ []) ∷
    (20480 ∷ 20480 ∷ 20480 ∷ 20480 ∷ 20480 ∷ 20480 ∷ 12902 ∷ 3821 ∷ 3346 ∷ 3000 ∷ 12109 ∷ 20480 ∷ 20480 ∷ 20480 ∷ 20480 ∷ 20480 ∷ 20480 ∷ []) ∷
    (20480 ∷ 20480 ∷ 20480 ∷ 20480 ∷ 20480 ∷ 20480 ∷ 15725 ∷ 3658 ∷ 20480 ∷ 1201 ∷ 10854 ∷ 18432 ∷ 20480 ∷ 20480 ∷ 20480 ∷ 20480 ∷ 20480 ∷ []) ∷
    []

-- C-17: the numbers of a table in one run, row after row
unfoldable pub in_one_run : List (List ℕ) → List ℕ
in_one_run [] = []
in_one_run (row ∷ rows) = row ++ in_one_run rows

-- the numbers of a table at some columns, in the rows from one on, added up
unfoldable pub cells_from : List (List ℕ) → ℕ → List ℕ → ℕ
cells_from table row [] = 0
cells_from table row (column ∷ columns) = cell table row column + cells_from table (suc row) columns
