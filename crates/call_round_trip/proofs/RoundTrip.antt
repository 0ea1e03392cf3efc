-- The coefficients that the decoder takes for the indices that the encoder reports are the coefficients that the encoder reports. So the decode call
-- takes all side data that the encode call reports as they were meant. That the decoder undoes the encoder can rest on this.
use mathlib.Core.Path.{◌≡◌, sym, ap, ◌∙◌}
use mathlib.Core.Bool.{Bool, true, false, cond}
use mathlib.Core.List.{List, ◌++◌}
use Prim.Native.Nat.{ℕ}
use native.Mathlib.Omega.{arith}
use lib.Ieee.{Float}
use lib.ListN.{length, take, drop}
use lib.Seq.{take_at, drop_at, take_all}
use Rattle.law_lists.proofs.Counted.{one_of_them, two_of_them}
use Rattle.check_verdicts.specs.Verdicts.{accepted, no_fault}
use Rattle.check_verdicts.proofs.Verdicts.{passed_by_checks}
use Rattle.row_durations.specs.Durations.{duration_of}
use Rattle.row_bands.specs.Bands.{row_of}
use Rattle.row_bands.specs.declared.Row.{Row}
use Rattle.check_frame.specs.Frames.{frame_checks}
use Rattle.check_frame.proofs.Frames.{frames_settle}
use Rattle.lattice_decoder.specs.DecoderLattice.{line_decoded}
use Rattle.lattice_rows.specs.Filters.{Filter, row_filtered}
use Rattle.side_data.specs.Side.{orders_in, indices_in, coefficients_in}
use Rattle.side_quantized.specs.declared.Quantized.{Quantized}
use Rattle.side_data.specs.declared.SideData.{SideData}
use Rattle.side_near.proofs.NearFrames.{OfTable}
use Rattle.shape_frame.specs.FrameSide.{has_second, side_of}
use Rattle.side_decoded.specs.DecoderFilters.{decoder_filter, row_decoded}
use Rattle.call_decode.specs.Decoder.{decode_checks, spectrum_decoded}
use Rattle.call_decode.proofs.DecodedFrames.{accepted_spectrum}
use Rattle.call_encode.specs.Encoder.{weighting_in, encode_verdict}
use Rattle.call_encode.proofs.NearFound.{filter_of_table, second_of_table}
use Rattle.call_encode.proofs.Reported.{sound_passes}
use Rattle.shape_frame.proofs.FrameLimits.{side_sound}
use Rattle.call_round_trip.specs.TakenBack.{coefficients_taken, filters_taken, filters_meant, TakenBack}

-- ---- any two filters whose coefficients are their indices'

module _ (a b : Quantized) (ta : OfTable a) (tb : OfTable b) (weighting : ℕ) where
  -- side data of both, with one of them counted or two
  abbrev both : Bool → SideData
  both two = record { weighting = weighting; filters = cond two 2 1; first = a; second = b }

  pub coefficients_taken_lem : (two : Bool) → coefficients_taken (both two) ≡ coefficients_in (both two)
  coefficients_taken_lem two = rw (ta.coded, tb.coded)

  first_indices : take 8 (a.indices ++ b.indices) ≡ a.indices
  first_indices = take_at a.indices b.indices 8 ta.within.eight_indices

  second_indices : take 8 (drop 8 (a.indices ++ b.indices)) ≡ b.indices
  second_indices = rw (drop_at a.indices b.indices 8 ta.within.eight_indices) (take_all 8 b.indices (omega (arith, tb.within.eight_indices)))

  pub filters_taken_lem : (two : Bool) → filters_taken (both two) ≡ filters_meant (both two)
  filters_taken_lem true = two_of_them decoder_filter (orders_in (both true)) (indices_in (both true)) ∙ rw (first_indices, second_indices, ta.coded, tb.coded)
  filters_taken_lem false = one_of_them decoder_filter (orders_in (both false)) (indices_in (both false)) ∙ rw (first_indices, ta.coded)

-- ---- what the encode call reports

module _ (duration bandwidth nbits : ℕ) (flag : Bool) (lines : List Float) where
  abbrev row : Row
  row = row_of (duration_of duration) bandwidth

  abbrev weighting : ℕ
  weighting = weighting_in duration nbits

  abbrev reported : SideData
  reported = side_of row lines flag weighting

  -- both filters are the table's
  same_coefficients : coefficients_taken reported ≡ coefficients_in reported
  unfolding side_of
  same_coefficients = coefficients_taken_lem _ _ (filter_of_table row.first lines flag weighting) (second_of_table row lines flag weighting) weighting (has_second row)

  same_filters : filters_taken reported ≡ filters_meant reported
  unfolding side_of
  same_filters = filters_taken_lem _ _ (filter_of_table row.first lines flag weighting) (second_of_table row lines flag weighting) weighting (has_second row)

  module _ (passes : frame_checks duration bandwidth (length lines) no_fault ≡ no_fault) where
    no_refusal : decode_checks duration bandwidth reported.filters (orders_in reported) (indices_in reported) (length lines) ≡ no_fault
    unfolding decode_checks
    no_refusal = rw (sound_passes _ _ _ (side_sound row lines flag weighting) no_fault) passes

    decoded_by_them : (found : List Float) → length found ≡ length lines
        → spectrum_decoded duration bandwidth reported.filters (orders_in reported) (indices_in reported) found
        ≡ row_filtered line_decoded row (filters_meant reported) found
    unfolding row_decoded
    decoded_by_them found long =
        sym (accepted_spectrum duration bandwidth _ _ _ found (sym (ap (decode_checks duration bandwidth _ _ _) long ∙ no_refusal)))
        ∙ ap (λ (filters : List Filter). row_filtered line_decoded row filters found) same_filters

  -- a frame that the encode call accepts passes the decode call's checks of a frame, which are the same
  frame_passes : (side : SideData) → encode_verdict duration bandwidth nbits flag lines ≡ accepted side
      → (side ≡ reported) × (frame_checks duration bandwidth (length lines) no_fault ≡ no_fault)
  unfolding encode_verdict
  frame_passes side e =
      let checks = frame_checks duration bandwidth (length lines) no_fault in
      let p = passed_by_checks checks reported side (sym e ∙ frames_settle duration bandwidth (length lines) (accepted reported)) in
      (p.0, frames_settle duration bandwidth (length lines) no_fault ∙ p.1 no_fault)

  pub taken_back : (side : SideData) → encode_verdict duration bandwidth nbits flag lines ≡ accepted side → TakenBack duration bandwidth (length lines) side
  taken_back side e =
      let p = frame_passes side e in
      rw p.0
      (record { coefficients = same_coefficients; filters = same_filters; accepted = no_refusal p.1; decoded = decoded_by_them p.1 })
