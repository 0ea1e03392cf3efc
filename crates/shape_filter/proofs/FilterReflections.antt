-- Laws of a filter's reflection coefficients: there are eight, and zeros where the filter is off.
use mathlib.Core.Path.{◌≡◌, refl}
use mathlib.Core.Bool.{Bool, true, false, cond}
use mathlib.Core.List.{List}
use Prim.Native.Nat.{ℕ}
use lib.Ieee.{Float}
use lib.ListN.{length, replicate}
use Rattle.law_rounding.specs.Floats.{f0}
use Rattle.law_lists.proofs.Tab.{length_tab}
use Rattle.row_bands.specs.declared.Band.{Band}
use Rattle.shape_gain.specs.declared.FilterGain.{FilterGain}
use Rattle.shape_reflections.specs.Reflections.{reflections}
use Rattle.shape_filter.specs.Analysis.{reflections_of, filter_record}

either_length : (on : Bool) (xs ys : List Float) (n : ℕ) → length xs ≡ n → length ys ≡ n → length (cond on xs ys) ≡ n
either_length true xs ys n p q = p
either_length false xs ys n p q = q

eight_of_row : (row : List Float) → length (reflections row) ≡ 8
unfolding reflections
eight_of_row row = length_tab _ 8

-- eight reflection coefficients
pub eight_reflections : (b : Band) (lines : List Float) (flag : Bool) (weighting : ℕ) → length (reflections_of b lines flag weighting) ≡ 8
unfolding reflections_of
eight_reflections b lines flag weighting = either_length (filter_record b lines flag weighting).on _ _ 8 (eight_of_row _) refl

-- a filter that is off has eight zeros
pub off_zeros : (b : Band) (lines : List Float) (flag : Bool) (weighting : ℕ) (g : FilterGain) → g ≡ filter_record b lines flag weighting → g.on ≡ false
    → replicate 8 f0 ≡ reflections_of b lines flag weighting
unfolding reflections_of
off_zeros b lines flag weighting g eg off = rw (← eg, off)
