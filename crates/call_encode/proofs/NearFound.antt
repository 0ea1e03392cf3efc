-- Demand 3 of the filters that the encoder finds: their coefficients are the table's.
use mathlib.Core.Bool.{Bool, true, false, cond}
use mathlib.Core.List.{List}
use Prim.Native.Nat.{ℕ}
use lib.Dec.{T}
use lib.ListN.{length, get_or}
use lib.Ieee.{Float, nan, binary32, fits}
use Rattle.row_bands.specs.Bands.{row_of}
use Rattle.row_durations.specs.declared.Duration.{Duration}
use Rattle.row_bands.specs.declared.Band.{Band}
use Rattle.row_bands.specs.declared.Row.{Row}
use Rattle.row_bands.proofs.Bands.{SoundRow}
use Rattle.side_quantized.specs.Quantized.{absent}
use Rattle.side_quantized.proofs.Within.{absent_within}
use Rattle.side_near.specs.NearExact.{NearExact}
use Rattle.side_near.proofs.NearFrames.{OfTable, quantized_of_table, absent_of_table, filters_near}
use Rattle.shape_frame.specs.FrameSide.{has_second, filter_of, second_of, side_of}
use Rattle.side_encoded.specs.SideFilters.{filtered_by}
use Rattle.shape_frame.proofs.FrameLimits.{filter_within}

pub filter_of_table : (b : Band) (lines : List Float) (flag : Bool) (weighting : ℕ) → OfTable (filter_of b lines flag weighting)
unfolding filter_of
filter_of_table b lines flag weighting = quantized_of_table _ (filter_within b lines flag weighting)

pub second_of_table : (row : Row) (lines : List Float) (flag : Bool) (weighting : ℕ) → OfTable (second_of row lines flag weighting)
unfolding second_of
second_of_table row lines flag weighting = either (has_second row)
  where
    either : (two : Bool) → OfTable (cond two (filter_of row.second lines flag weighting) absent)
    either true = filter_of_table row.second lines flag weighting
    either false = absent_of_table absent_within

pub frame_near : (d : Duration) (bandwidth : ℕ) (flag : Bool) (weighting : ℕ) (xs : List Float) → SoundRow (row_of d bandwidth) (length xs) → ((j : ℕ) → T (fits binary32 (get_or xs j nan)))
    → NearExact (row_of d bandwidth) (side_of (row_of d bandwidth) xs flag weighting) xs (filtered_by (side_of (row_of d bandwidth) xs flag weighting) (row_of d bandwidth) xs)
unfolding side_of
frame_near d bandwidth flag weighting xs sound fit =
    let row = row_of d bandwidth in
    filters_near d bandwidth weighting (cond (has_second row) 2 1) (filter_of row.first xs flag weighting) (second_of row xs flag weighting)
    (filter_of_table row.first xs flag weighting) (second_of_table row xs flag weighting) xs sound fit
