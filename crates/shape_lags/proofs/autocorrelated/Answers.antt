-- The lags from the sums of the three subbands.
use mathlib.Core.Path.{◌≡◌, ◌∙◌}
use mathlib.Core.List.{List}
use lib.Ieee.{Float, eq}
use Rattle.row_bands.specs.declared.Band.{Band}
use Rattle.law_rounding.specs.Floats.{◌⊗◌, f0}
use Rattle.law_lists.specs.Places.{at, tab}
use Rattle.shape_sums.specs.LagSums.{lag_sum}
use Rattle.shape_lags.specs.Autocorrelation.{autocorrelation, lowest, middle, highest}
use Rattle.shape_lags.specs.LagCells.{lag_cell}
use Rattle.shape_lags.proofs.Lags.{lags_are}
use Rattle.shape_lags.proofs.autocorrelated.Goals as goal

of_sums : (band : Band) (lines a b c lags : List Float) → a ≡ tab (lag_sum (lowest band lines)) 9 → b ≡ tab (lag_sum (middle band lines)) 9
    → c ≡ tab (lag_sum (highest band lines)) 9 → lags ≡ tab (lag_cell (eq (at a 0 ⊗ at b 0 ⊗ at c 0) f0) a b c) 9 → lags ≡ autocorrelation band lines
unfolding autocorrelation
of_sums band lines a b c lags ea eb ec e = e ∙ lags_are (lowest band lines) (middle band lines) (highest band lines) a b c ea eb ec

pub returns : goal.returns
returns c =
    let g = c.args in
    of_sums g.band g.lines.now c.lag_sums-a.result c.lag_sums-b.result c.lag_sums-c.result c.lags_of.result
    c.lag_sums-a.ensures c.lag_sums-b.ensures c.lag_sums-c.ensures c.lags_of.ensures
