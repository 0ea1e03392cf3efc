-- The filters that side data are: the first one's coefficients and order, then the second's, and what they leave of a spectrum.
use Rattle.std.specs.Prelude.{List, [], ◌∷◌, Float}
use Rattle.row_bands.specs.declared.Row.{Row}
use Rattle.lattice_encoder.specs.EncoderLattice.{line_encoded}
use Rattle.lattice_rows.specs.Filters.{Filter, filter_with, row_filtered}
use Rattle.side_quantized.specs.declared.Quantized.{Quantized}
use Rattle.side_data.specs.declared.SideData.{SideData}

abbrev pub filter_in : Quantized → Filter
filter_in filter = filter_with filter.coefficients filter.order

abbrev pub filters_in : SideData → List Filter
filters_in side = filter_in side.first ∷ filter_in side.second ∷ []

-- the lines through both filters of some side data, each in its band
unfoldable pub filtered_by : SideData → Row → List Float → List Float
filtered_by side row lines = row_filtered line_encoded row (filters_in side) lines
