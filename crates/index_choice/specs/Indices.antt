-- docs/RULES.md, "Index and coefficient": the table of f32 thresholds, the index of a number, the order of a filter's indices.
-- The table comes from a sweep of the Rust over every f32 from -1 to 1 (oracle/RESULTS.txt). It is written as bit patterns.
use Rattle.std.specs.Prelude.{◌&&◌, cond, List, [], ◌∷◌, map, ℕ, suc, ◌+◌, ◌-◌, eqb, Float}
use Rattle.std.specs.Float.Ieee.{le, neg, of_bits}
use Rattle.std.specs.Float.{binary32}
use Rattle.law_rounding.specs.Floats.{f0, f1}

abbrev pub threshold_patterns : List ℕ
threshold_patterns =
    0x3dbcf730 ∷
    0x3e8c1d8e ∷
    0x3ee437d1 ∷
    0x3f1a4643 ∷
    0x3f3d2fb0 ∷
    0x3f59a7d4 ∷
    0x3f6eb680 ∷
    0x3f7ba421 ∷
    []

-- eight rising positive thresholds decide the index
abbrev pub thresholds : List Float
thresholds = map (of_bits binary32) threshold_patterns

-- the number of thresholds not above x
unfoldable pub not_above : Float → List Float → ℕ
not_above x [] = 0
not_above x (t ∷ ts) = cond (le t x) 1 0 + not_above x ts

-- From 0 to 1: 8 and one more for each threshold that is at most x. From -1 to 0: 8 and one less for each that is at most -x. Everything else, NaN too: 8
unfoldable pub index_of : Float → ℕ
index_of x =
    cond (le f0 x && le x f1) (8 + not_above x thresholds)
    (cond (le (neg f1) x && le x f0) (8 - not_above (neg x) thresholds)
    8)

-- the last place that does not hold 8, counted from 1, or what was found before: `passed` places lie behind
unfoldable pub order_from : ℕ → ℕ → List ℕ → ℕ
order_from passed found [] = found
order_from passed found (i ∷ is) = order_from (suc passed) (cond (eqb i 8) found (suc passed)) is

unfoldable pub order_of : List ℕ → ℕ
unfolding order_from
order_of indices = order_from 0 0 indices
