-- What inner contracts and laws say of side data. No public promise rests on this name.
use Rattle.std.specs.Prelude.{◌≤◌}
use Rattle.side_quantized.specs.Within.{Within8}
use Rattle.side_data.specs.declared.SideData.{SideData}

-- side data as the analysis leaves it: one filter or two, each within the limits
pub record Reported (side : SideData) : Type 0 where
  pub first : Within8 side.first
  pub second : Within8 side.second
  pub one : 1 ≤ side.filters
  pub two : side.filters ≤ 2
