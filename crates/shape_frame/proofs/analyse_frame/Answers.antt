-- The side data and the records are the definition's, and the side data within the limits that their bits ask for.
use mathlib.Core.Path.{◌≡◌, sym, subst}
use mathlib.Core.Bool.{Bool}
use mathlib.Core.List.{List}
use Prim.Native.Nat.{ℕ}
use lib.Ieee.{Float}
use Rattle.check_side.specs.Sides.{SoundSide}
use Rattle.cost_call.specs.Cost.{counted_bits}
use Rattle.side_data.specs.Side.{orders_in, indices_in}
use Rattle.side_data.specs.declared.SideData.{SideData}
use Rattle.row_bands.specs.declared.Row.{Row}
use Rattle.shape_frame.specs.FrameSide.{count_of, shaped_of, shaped_second, side_of, gains_of, frame_found}
use Rattle.shape_frame.specs.declared.Shaped.{Shaped}
use Rattle.shape_frame.specs.declared.Found.{Found}
use Rattle.shape_frame.proofs.FrameLimits.{side_sound}
use Rattle.shape_frame.proofs.analyse_frame.Goals as goal

module _ (row : Row) (lines : List Float) (flag : Bool) (weighting : ℕ) (a b : Shaped) (filters : ℕ)
    (ea : a ≡ shaped_of row.first lines flag weighting)
    (eb : b ≡ shaped_second row lines flag weighting)
    (ef : filters ≡ count_of row)
  where
    abbrev side : SideData
    side = record { weighting = weighting; filters = filters; first = a.filter; second = b.filter }

    side_is : side ≡ side_of row lines flag weighting
    unfolding side_of
    side_is = rw (ea, eb, ef)

    sound : SoundSide filters (orders_in side) (indices_in side)
    sound = subst (λ (s : SideData). SoundSide s.filters (orders_in s) (indices_in s)) (sym side_is) (side_sound row lines flag weighting)

    all : (bits : ℕ) → bits ≡ counted_bits weighting filters (orders_in side) (indices_in side)
        → ◌≡◌ {A = Found} (record { bits = bits; side = side; gains = record { first = a.gain; second = b.gain } }) (frame_found row lines flag weighting)
    unfolding side_of gains_of
    all bits e = rw (e, ea, eb, ef)

pub side_bits-requires : goal.side_bits-requires
side_bits-requires c =
    let g = c.args in
    sound g.row g.lines.now g.flag g.weighting c.filter_of-first.result c.second_of-second.result c.count_of.result
    c.filter_of-first.ensures c.second_of-second.ensures c.count_of.ensures

pub returns : goal.returns
returns c =
    let g = c.args in
    all g.row g.lines.now g.flag g.weighting c.filter_of-first.result c.second_of-second.result c.count_of.result
    c.filter_of-first.ensures c.second_of-second.ensures c.count_of.ensures c.side_bits.result c.side_bits.ensures
