-- docs/RULES.md, "Analysis": the recursion to order 8 in E's order of operations.
use Rattle.std.specs.Prelude.{cond, List, ℕ, zero, suc, ◌-◌, eqb, ltb, Float}
use Rattle.std.specs.Float.Ieee.{ne}
use Rattle.law_rounding.specs.Floats.{◌⊕◌, ◌⊖◌, ◌⊗◌, ◌⊘◌, f0, f1}
use Rattle.law_lists.specs.Places.{at, tab}
use Rattle.shape_recursion.specs.declared.Predictor.{Predictor}

-- 0 - a[0]·r[k] - a[1]·r[k-1] - .., the first n products
unfoldable pub crossed : List Float → List Float → ℕ → ℕ → Float
crossed r a k zero = f0
crossed r a k (suc n) = crossed r a k n ⊖ at a n ⊗ at r (k - n)

-- the reflection of step k: a zero error isn't divided by
unfoldable pub reflection : List Float → Predictor → ℕ → Float
reflection r p k = cond (ne p.error f0) (crossed r p.row k k ⊘ p.error) (crossed r p.row k k)

-- the row of step k from the one before it: a[0] = 1, a[n] = last[n] + rc·last[k-n], a[k] = rc
abbrev pub row_cell : List Float → Float → ℕ → ℕ → Float
row_cell last rc k n =
    cond (eqb n 0) f1
    (cond (ltb n k) (at last n ⊕ rc ⊗ at last (k - n))
    (cond (eqb n k) rc f0))

unfoldable pub next_row : List Float → Float → ℕ → List Float
next_row last rc k = tab (row_cell last rc k) 9

-- one step, with the error that it leaves
unfoldable pub stepped : List Float → ℕ → Predictor → Predictor
stepped r k p =
    let rc = reflection r p k in
    record { row = next_row p.row rc k; error = p.error ⊗ (f1 ⊖ rc ⊗ rc) }

-- before the first step: 1 and zeros, and the error r[0]
unfoldable pub unpredicted : List Float → Predictor
unpredicted r = record { row = tab (λ n. cond (eqb n 0) f1 f0) 9; error = at r 0 }

-- after k steps
unfoldable pub predicted : List Float → ℕ → Predictor
predicted r zero = unpredicted r
predicted r (suc k) = stepped r (suc k) (predicted r k)
