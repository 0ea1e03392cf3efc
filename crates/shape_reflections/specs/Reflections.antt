-- docs/RULES.md, "Analysis": damped coefficients, and the step-down to reflection coefficients in E's order of operations.
use Rattle.std.specs.Prelude.{◌&&◌, cond, List, ℕ, zero, suc, ◌-◌, ◌/◌, ◌%◌, eqb, ltb, Float}
use Rattle.law_rounding.specs.Floats.{◌⊖◌, ◌⊗◌, ◌⊘◌, f0, f1}
use Rattle.law_lists.specs.Places.{at, tab}

-- x to the e, bit by bit from the lowest: a bit of 1 multiplies by x squared as often as there are bits below it. The exponents here have at most four bits.
unfoldable pub power_from : ℕ → Float → Float → ℕ → Float
power_from zero product square e = product
power_from (suc bits) product square e = power_from bits (cond (eqb (e % 2) 1) (product ⊗ square) product) (square ⊗ square) (e / 2)

unfoldable pub power : Float → ℕ → Float
power x e = power_from 4 f1 x e

-- coefficient k is multiplied by damping^k
unfoldable pub damped : List Float → Float → List Float
damped row damping = tab (λ k. at row k ⊗ power damping k) 9

-- the row below row k: (a[n] - rc·a[k-n]) / (1 - rc·rc) for n from 1 to k - 1, rc being a[k]
abbrev pub below_cell : List Float → ℕ → ℕ → Float
below_cell row k n =
    cond (ltb 0 n && ltb n k) ((at row n ⊖ at row k ⊗ at row (k - n)) ⊘ (f1 ⊖ at row k ⊗ at row k)) f0

unfoldable pub row_below : List Float → ℕ → List Float
row_below row k = tab (below_cell row k) 9

-- the row k, coming down from row 8
unfoldable pub row_at : List Float → ℕ → List Float
row_at row zero = row
row_at row (suc down) = row_below (row_at row down) (8 - down)

-- reflection coefficient k, from 1 to 8, is a[k] of row k
unfoldable pub reflections : List Float → List Float
reflections row = tab (λ n. at (row_at row (7 - n)) (suc n)) 8
