-- No filter where the row has no second band.
use mathlib.Core.Path.{◌≡◌, ◌∙◌}
use mathlib.Core.Bool.{Bool}
use mathlib.Core.List.{List}
use Prim.Native.Nat.{ℕ}
use borrow.Author.Tests.{eq-eqb, ne_eqb}
use lib.Ieee.{Float}
use Rattle.row_bands.specs.declared.Row.{Row}
use Rattle.side_quantized.specs.Quantized.{absent}
use Rattle.side_quantized.specs.declared.Quantized.{Quantized}
use Rattle.shape_gain.specs.Gains.{absent_gain}
use Rattle.shape_gain.specs.declared.FilterGain.{FilterGain}
use Rattle.shape_frame.specs.FrameSide.{second_of, shaped_of, shaped_second}
use Rattle.shape_frame.specs.declared.Shaped.{Shaped}
use Rattle.shape_frame.proofs.second_of.Goals as goal

module _ (row : Row) (lines : List Float) (flag : Bool) (weighting : ℕ) where
  no_second : (f : Quantized) (g : FilterGain) → f ≡ absent → g ≡ absent_gain → row.second.stop ≡ 0
      → ◌≡◌ {A = Shaped} (record { filter = f; gain = g }) (shaped_second row lines flag weighting)
  unfolding second_of
  no_second f g p q e = rw (p, q, eq-eqb row.second.stop 0 e)

  has_second_lem : (row.second.stop ≡ 0 → ⊥) → shaped_of row.second lines flag weighting ≡ shaped_second row lines flag weighting
  unfolding second_of
  has_second_lem h = rw (ne_eqb row.second.stop 0 h)

pub returns-then-row-eq0 : goal.returns-then-row-eq0
returns-then-row-eq0 c =
    let g = c.args in
    no_second g.row g.lines.now g.flag g.weighting c.none.result c.absent_gain.result
    c.none.ensures c.absent_gain.ensures c.if-row-eq0.true

pub returns-else-row-eq0 : goal.returns-else-row-eq0
returns-else-row-eq0 c =
    let g = c.args in
    c.filter_of.ensures ∙ has_second_lem g.row g.lines.now g.flag g.weighting c.if-row-eq0.false
