-- docs/RULES.md, "Analysis", "Index and coefficient" and "Gains (C-18)": the side data of a frame, a filter for each band of its row, and the records
-- of gain, damping and on/off of both filters.
use Rattle.std.specs.Prelude.{Bool, true, false, cond, List, ℕ, eqb, Float}
use Rattle.row_bands.specs.declared.Band.{Band}
use Rattle.row_bands.specs.declared.Row.{Row}
use Rattle.side_quantized.specs.Quantized.{quantized_of, absent}
use Rattle.side_data.specs.Side.{bits_of}
use Rattle.side_quantized.specs.declared.Quantized.{Quantized}
use Rattle.side_data.specs.declared.SideData.{SideData}
use Rattle.shape_gain.specs.Gains.{absent_gain}
use Rattle.shape_gain.specs.declared.FilterGain.{FilterGain}
use Rattle.shape_gain.specs.declared.Gains.{Gains}
use Rattle.shape_filter.specs.Analysis.{filter_record, reflections_of}
use Rattle.shape_frame.specs.declared.Found.{Found}
use Rattle.shape_frame.specs.declared.Shaped.{Shaped}

-- the row has a second band
abbrev pub has_second : Row → Bool
has_second row = cond (eqb row.second.stop 0) false true

-- the filter of a band, analysed and quantized
unfoldable pub filter_of : Band → List Float → Bool → ℕ → Quantized
filter_of band lines flag weighting = quantized_of (reflections_of band lines flag weighting)

unfoldable pub second_of : Row → List Float → Bool → ℕ → Quantized
second_of row lines flag weighting = cond (has_second row) (filter_of row.second lines flag weighting) absent

-- the side data of a frame: a filter for each band of its row
abbrev pub count_of : Row → ℕ
count_of row = cond (has_second row) 2 1

unfoldable pub side_of : Row → List Float → Bool → ℕ → SideData
side_of row lines flag weighting =
    record {
      weighting = weighting;
      filters = count_of row;
      first = filter_of row.first lines flag weighting;
      second = second_of row lines flag weighting;
    }

-- the records of both filters, as the analysis of each band gives them
abbrev pub second_record : Row → List Float → Bool → ℕ → FilterGain
second_record row lines flag weighting = cond (has_second row) (filter_record row.second lines flag weighting) absent_gain

unfoldable pub gains_of : Row → List Float → Bool → ℕ → Gains
gains_of row lines flag weighting = record { first = filter_record row.first lines flag weighting; second = second_record row lines flag weighting }

-- what the analysis of a frame gives: its side data, their bits, and the records
abbrev pub frame_found : Row → List Float → Bool → ℕ → Found
frame_found row lines flag weighting =
    let side = side_of row lines flag weighting in record { side = side; bits = bits_of side; gains = gains_of row lines flag weighting }

-- ---- what inner contracts cite; no public promise rests on these names

-- what the analysis finds in a band, and in the second band or none
abbrev pub shaped_of : Band → List Float → Bool → ℕ → Shaped
shaped_of band lines flag weighting = record { filter = filter_of band lines flag weighting; gain = filter_record band lines flag weighting }

abbrev pub shaped_second : Row → List Float → Bool → ℕ → Shaped
shaped_second row lines flag weighting = record { filter = second_of row lines flag weighting; gain = second_record row lines flag weighting }
