-- A filter that is reported as off has order 0, eight indices 8 and eight coefficients 0: its reflection coefficients are zeros, whose indices are
-- eights. A filter that is on may have order 0 too.
use mathlib.Core.Path.{◌≡◌, refl, sym, ◌∙◌, ap}
use mathlib.Core.Bool.{Bool, true, false, cond}
use mathlib.Core.List.{List}
use Prim.Native.Nat.{ℕ}
use lib.Ieee.{Float}
use lib.ListN.{replicate}
use Rattle.row_bands.specs.declared.Band.{Band}
use Rattle.row_bands.specs.declared.Row.{Row}
use Rattle.law_rounding.specs.Floats.{f0}
use Rattle.index_choice.specs.Indices.{index_of, order_of, order_from, not_above}
use Rattle.index_coefficients.specs.Coefficients.{coefficient_of}
use Rattle.shape_gain.specs.Gains.{absent_gain}
use Rattle.shape_gain.specs.declared.FilterGain.{FilterGain}
use Rattle.shape_filter.specs.Analysis.{filter_record, reflections_of}
use Rattle.shape_filter.proofs.FilterReflections.{off_zeros}
use Rattle.side_quantized.specs.Quantized.{quantized_of, absent}
use Rattle.shape_frame.specs.FrameSide.{has_second, filter_of, second_of, side_of, gains_of}

zeros_absent : absent ≡ quantized_of (replicate 8 f0)
unfolding absent quantized_of index_of coefficient_of order_of order_from not_above lib.Ieee.le lib.Ieee.of_bits
zeros_absent = refl

pub off_is : (b : Band) (lines : List Float) (flag : Bool) (weighting : ℕ) (g : FilterGain) → g ≡ filter_record b lines flag weighting → g.on ≡ false
    → absent ≡ quantized_of (reflections_of b lines flag weighting)
off_is b lines flag weighting g eg off = zeros_absent ∙ ap quantized_of (off_zeros b lines flag weighting g eg off)

filter_off : (b : Band) (lines : List Float) (flag : Bool) (weighting : ℕ) → (filter_record b lines flag weighting).on ≡ false → filter_of b lines flag weighting ≡ absent
unfolding filter_of
filter_off b lines flag weighting off = sym (off_is b lines flag weighting (filter_record b lines flag weighting) refl off)

-- ---- the two filters of a frame

module _ (row : Row) (lines : List Float) (flag : Bool) (weighting : ℕ) where
  pub first_off : (gains_of row lines flag weighting).first.on ≡ false → (side_of row lines flag weighting).first ≡ absent
  unfolding gains_of side_of
  first_off off = filter_off row.first lines flag weighting off

  pub second_off : (gains_of row lines flag weighting).second.on ≡ false → (side_of row lines flag weighting).second ≡ absent
  unfolding gains_of side_of second_of
  second_off = either (has_second row)
    where
      either : (two : Bool) → (cond two (filter_record row.second lines flag weighting) absent_gain).on ≡ false → cond two (filter_of row.second lines flag weighting) absent ≡ absent
      either true off = filter_off row.second lines flag weighting off
      either false off = refl
