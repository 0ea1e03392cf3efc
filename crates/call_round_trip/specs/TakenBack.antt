-- Side data on their way from the encode call to the decode call: what the decoder takes them for, and what they were. An index stands for one
-- coefficient in both directions.
use Rattle.std.specs.Prelude.{◌≡◌, List, ◌++◌, ℕ, Float, length, take}
use Rattle.law_lists.specs.Counted.{counted}
use Rattle.check_verdicts.specs.Verdicts.{no_fault}
use Rattle.row_durations.specs.Durations.{duration_of}
use Rattle.row_bands.specs.Bands.{row_of}
use Rattle.lattice_decoder.specs.DecoderLattice.{line_decoded}
use Rattle.lattice_rows.specs.Filters.{Filter, row_filtered}
use Rattle.side_data.specs.Side.{orders_in, indices_in, coefficients_in}
use Rattle.side_data.specs.declared.SideData.{SideData}
use Rattle.side_encoded.specs.SideFilters.{filters_in}
use Rattle.side_decoded.specs.DecoderFilters.{decoder_filter}
use Rattle.call_decode.specs.Decoder.{decode_checks, spectrum_decoded}

-- the sixteen coefficients that the decoder takes the sixteen indices for, used or not: the first filter's, then the second's
abbrev pub coefficients_taken : SideData → List Float
coefficients_taken side =
    (decoder_filter side.first.order side.first.indices).coefficients ++ (decoder_filter side.second.order side.second.indices).coefficients

-- the counted filters that the decoder makes of the orders and indices, and those that the encoder filtered with
abbrev pub filters_taken : SideData → List Filter
filters_taken side = counted decoder_filter side.filters (orders_in side) (indices_in side)

abbrev pub filters_meant : SideData → List Filter
filters_meant side = take side.filters (filters_in side)

-- Side data that a decode call of the same duration, bandwidth and number of lines takes as they were meant: the coefficients that it takes are those
-- reported, its filters are the encoder's, it accepts them, and it decodes any lines with those filters.
pub record TakenBack (duration bandwidth lines : ℕ) (side : SideData) : Type 0 where
  pub coefficients : coefficients_taken side ≡ coefficients_in side
  pub filters : filters_taken side ≡ filters_meant side
  pub accepted : decode_checks duration bandwidth side.filters (orders_in side) (indices_in side) lines ≡ no_fault
  pub decoded : (found : List Float) → length found ≡ lines
      → spectrum_decoded duration bandwidth side.filters (orders_in side) (indices_in side) found
      ≡ row_filtered line_decoded (row_of (duration_of duration) bandwidth) (filters_meant side) found
