-- docs/RULES.md, "Analysis": from the lines of a band to its record and its eight reflection coefficients.
use Rattle.std.specs.Prelude.{Bool, cond, List, ℕ, replicate, Float}
use Rattle.row_bands.specs.declared.Band.{Band}
use Rattle.law_rounding.specs.Floats.{f0}
use Rattle.law_lists.specs.Places.{at}
use Rattle.shape_lags.specs.Autocorrelation.{autocorrelation}
use Rattle.shape_recursion.specs.Recursion.{predicted}
use Rattle.shape_gain.specs.Gain.{gain_record}
use Rattle.shape_reflections.specs.Reflections.{damped, reflections}
use Rattle.shape_gain.specs.declared.FilterGain.{FilterGain}
use Rattle.shape_filter.specs.declared.Analysed.{Analysed}

-- the record of a filter on a band
unfoldable pub filter_record : Band → List Float → Bool → ℕ → FilterGain
filter_record b lines flag weighting =
    let r = autocorrelation b lines in
    gain_record (at r 0) (predicted r 8).error flag weighting

-- its reflection coefficients: off gives eight zeros
unfoldable pub reflections_of : Band → List Float → Bool → ℕ → List Float
reflections_of b lines flag weighting =
    let g = filter_record b lines flag weighting in
    cond g.on (reflections (damped (predicted (autocorrelation b lines) 8).row g.damping)) (replicate 8 f0)

-- what the analysis of a filter gives
abbrev pub analysed_of : Band → List Float → Bool → ℕ → Analysed
analysed_of b lines flag weighting = record { gain = filter_record b lines flag weighting; reflections = reflections_of b lines flag weighting }
