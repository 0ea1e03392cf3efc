-- docs/RULES.md, "Analysis": the autocorrelation of a band at lags 0 to 8.
use Rattle.std.specs.Prelude.{cond, List, [], ◌∷◌, map, ℕ, eqb, Float}
use Rattle.std.specs.Float.Ieee.{eq, of_bits}
use Rattle.std.specs.Float.{binary32}
use Rattle.row_bands.specs.declared.Band.{Band}
use Rattle.law_rounding.specs.Floats.{◌⊕◌, ◌⊗◌, ◌⊘◌, f0}
use Rattle.law_lists.specs.Places.{part, at, tab}
use Rattle.shape_sums.specs.LagSums.{lag_sum}

-- the three subbands of a band
abbrev pub lowest : Band → List Float → List Float
lowest b lines = part b.start b.first_cut lines

abbrev pub middle : Band → List Float → List Float
middle b lines = part b.first_cut b.second_cut lines

abbrev pub highest : Band → List Float → List Float
highest b lines = part b.second_cut b.stop lines

-- E's lag window
abbrev pub lag_window : List Float
lag_window =
    map (of_bits binary32)
    (0x3f800000 ∷ 0x3f7f7ec4 ∷ 0x3f7dfc96 ∷ 0x3f7b7e04 ∷ 0x3f780a8a ∷ 0x3f73ac6e ∷ 0x3f6e708e ∷ 0x3f68661f ∷ 0x3f619e65 ∷ [])

-- of a silent band: 3, and then zeros
abbrev pub where_silent : ℕ → Float
where_silent k = cond (eqb k 0) (of_bits binary32 0x40400000) f0

-- Each subband adds its sum over its energy. A band is silent if the f32 product of the three energies is zero, which can be by underflow.
-- Then the lag window.
unfoldable pub normalized_lag : List Float → List Float → List Float → ℕ → Float
normalized_lag xs ys zs k =
    cond (eq (lag_sum xs 0 ⊗ lag_sum ys 0 ⊗ lag_sum zs 0) f0)
    (where_silent k)
    (f0 ⊕ lag_sum xs k ⊘ lag_sum xs 0 ⊕ lag_sum ys k ⊘ lag_sum ys 0 ⊕ lag_sum zs k ⊘ lag_sum zs 0)
    ⊗ at lag_window k

-- lags 0 to 8 of a band
unfoldable pub autocorrelation : Band → List Float → List Float
autocorrelation b lines = tab (normalized_lag (lowest b lines) (middle b lines) (highest b lines)) 9
