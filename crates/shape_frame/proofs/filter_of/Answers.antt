-- The filter and the record are the definition's, where it is on and where it is off.
use mathlib.Core.Path.{◌≡◌, ◌∙◌, ap}
use mathlib.Core.Bool.{Bool}
use mathlib.Core.List.{List}
use Prim.Native.Nat.{ℕ}
use lib.Ieee.{Float}
use Rattle.row_bands.specs.declared.Band.{Band}
use Rattle.shape_filter.specs.Analysis.{analysed_of}
use Rattle.shape_filter.specs.declared.Analysed.{Analysed}
use Rattle.side_quantized.specs.Quantized.{quantized_of}
use Rattle.side_quantized.specs.declared.Quantized.{Quantized}
use Rattle.shape_frame.specs.FrameSide.{filter_of, shaped_of}
use Rattle.shape_frame.specs.declared.Shaped.{Shaped}
use Rattle.shape_frame.proofs.Off.{off_is}
use Rattle.shape_frame.proofs.filter_of.Goals as goal
use Rattle.shape_frame.proofs.filter_of.Goals.{then-found, else-found}

-- the filter and the record together
shaped : (b : Band) (lines : List Float) (flag : Bool) (weighting : ℕ) (f : Quantized) (a : Analysed) → f ≡ filter_of b lines flag weighting
    → a ≡ analysed_of b lines flag weighting → ◌≡◌ {A = Shaped} (record { filter = f; gain = a.gain }) (shaped_of b lines flag weighting)
shaped b lines flag weighting f a e found = rw (e, found)

pub returns : goal.returns
unfolding filter_of
returns c =
    let g = c.args in
    let found = c.analyse-found in
    let filter : c.if-found.filter ≡ filter_of g.band g.lines.now g.flag g.weighting = elim c.if-found.branch [
      | then-found w ↦ w.filter-is ∙ w.quantize_all-filter.ensures ∙ ap quantized_of (ap (λ (a : Analysed). a.reflections) found.ensures)
      | else-found w ↦
          w.filter-is ∙ w.none-filter.ensures
          ∙ off_is g.band g.lines.now g.flag g.weighting found.result.gain (ap (λ (a : Analysed). a.gain) found.ensures) w.if-found.false
    ] in
    shaped g.band g.lines.now g.flag g.weighting c.if-found.filter found.result filter found.ensures
