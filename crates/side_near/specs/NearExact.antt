-- Demand 3 over a frame: the exact lines of its two bands, by the filters of its side data, and how near to them the lines are that it leaves.
use Rattle.std.specs.Prelude.{List, map, ℕ, ◌≤◌, ◌<◌, get_or, ℤ, Float}
use Rattle.std.specs.Float.{nan}
use Rattle.law_rounding.specs.Units.{in_units, AtMost}
use Rattle.row_bands.specs.Bands.{inside, last_stop}
use Rattle.row_bands.specs.declared.Band.{Band}
use Rattle.row_bands.specs.declared.Row.{Row}
use Rattle.lattice_exact.specs.Exact.{exact_rest, lines_exact, states_exact}
use Rattle.lattice_exact.specs.Near.{EachNear, InRange}
use Rattle.side_quantized.specs.declared.Quantized.{Quantized}
use Rattle.side_data.specs.declared.SideData.{SideData}

-- ---- the exact lines of a frame, from the orders and coefficients of its side data

abbrev pub lines_in : Band → List Float → List ℤ
lines_in band lines = map (in_units 149) (inside band lines)

abbrev pub coefficients_of : Quantized → List ℤ
coefficients_of filter = map (in_units 26) filter.coefficients

unfoldable pub first_exact : Row → SideData → List Float → List ℤ
first_exact row side lines = lines_exact (coefficients_of side.first) side.first.order exact_rest (lines_in row.first lines)

-- the states start at 0 and carry from the first filter into the second
unfoldable pub exact_carried : Row → SideData → List Float → List ℤ
exact_carried row side lines = states_exact (coefficients_of side.first) side.first.order exact_rest (lines_in row.first lines)

unfoldable pub second_exact : Row → SideData → List Float → List ℤ
second_exact row side lines = lines_exact (coefficients_of side.second) side.second.order (exact_carried row side lines) (lines_in row.second lines)

-- ---- demand 3

-- no line from the first band's start to the last band's end is NaN, infinite or larger than 2^m
abbrev pub LinesAtMost : ℤ → Row → List Float → Type 0
LinesAtMost m row lines = (j : ℕ) → row.first.start ≤ j → j < last_stop row → AtMost m (get_or lines j nan)

-- each line of both bands
pub record BandsNear (m : ℤ) (row : Row) (side : SideData) (before after : List Float) : Type 0 where
  pub first : EachNear m (inside row.first after) (first_exact row side before)
  pub second : EachNear m (inside row.second after) (second_exact row side before)

abbrev pub NearExact : Row → SideData → List Float → List Float → Type 0
NearExact row side before after = (m : ℤ) → InRange m → LinesAtMost m row before → BandsNear m row side before after
