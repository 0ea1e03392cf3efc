-- docs/RULES.md, "Band rows": no line outside the bands changes, and no result depends on one. The laws of any call that filters its bands, of the encode
-- call; and its analysis, too, depends on the lines of the bands alone.
use mathlib.Core.Path.{◌≡◌, refl, sym, ◌∙◌, ap}
use mathlib.Core.Bool.{Bool}
use mathlib.Core.List.{List}
use Prim.Native.Nat.{ℕ, ◌+◌, ◌-◌, ◌≤◌, ◌<◌}
use native.Mathlib.Omega.{arith}
use lib.Ieee.{Float, nan}
use lib.ListN.{length, get_or}
use lib.Seq.{ext_get_or}
use Rattle.law_lists.specs.Places.{part}
use Rattle.check_verdicts.specs.Verdicts.{Verdict, accepted, refused}
use Rattle.row_durations.specs.Durations.{numbers_of, duration_of}
use Rattle.row_bands.specs.Bands.{row_of, band_of, last_stop, inside}
use Rattle.row_bands.specs.declared.Band.{Band}
use Rattle.row_bands.specs.declared.Row.{Row}
use Rattle.row_bands.proofs.Bands.{Fits, SoundRow, Cut, row_cut}
use Rattle.row_bands.proofs.Apart.{Outside, inside_length, inside_at}
use Rattle.check_frame.specs.Frames.{frame_checks}
use Rattle.check_frame.proofs.Frames.{accepted_row, same_result}
use Rattle.lattice_encoder.specs.EncoderLattice.{line_encoded}
use Rattle.lattice_rows.proofs.OutsideBands as calls
use Rattle.shape_lags.specs.Autocorrelation.{autocorrelation}
use Rattle.shape_filter.specs.Analysis.{filter_record, reflections_of}
use Rattle.side_data.specs.declared.SideData.{SideData}
use Rattle.side_encoded.specs.SideFilters.{filters_in, filtered_by}
use Rattle.shape_gain.specs.declared.Gains.{Gains}
use Rattle.shape_frame.specs.FrameSide.{filter_of, second_of, side_of, gains_of}
use Rattle.call_encode.specs.Encoder.{weighting_in, encode_verdict, gains_found, gains_in, spectrum_encoded}

-- ---- the analysis of a band depends on its own lines alone

module _ (b : Band) (xs ys : List Float) (long : length xs ≡ length ys) (cut : Cut b) (end : b.stop ≤ length xs) (agree : inside b xs ≡ inside b ys) where
  -- a part of the band
  same_part : (p q : ℕ) → b.start ≤ p → p ≤ q → q ≤ b.stop → part p q xs ≡ part p q ys
  same_part p q from order to =
      let piece : Band = record { start = p; first_cut = 0; second_cut = 0; stop = q } in
      let fx : Fits piece (length xs) = record { order = order; end = omega arith } in
      let fy : Fits piece (length ys) = record { order = order; end = omega arith } in
      ext_get_or nan (part p q xs) (part p q ys) (inside_length piece xs fx ∙ sym (inside_length piece ys fy))
      (λ j h.
      let k : j < q - p = omega (arith, inside_length piece xs fx) in
      let place : b.start + (p - b.start + j) ≡ p + j = omega arith in
      let within-band : p - b.start + j < b.stop - b.start = omega arith in
      inside_at piece xs j k ∙ ap (λ (n : ℕ). get_or xs n nan) (sym place) ∙ sym (inside_at b xs (p - b.start + j) within-band)
      ∙ ap (λ (l : List Float). get_or l (p - b.start + j) nan) agree
      ∙ inside_at b ys (p - b.start + j) within-band ∙ ap (λ (n : ℕ). get_or ys n nan) place ∙ sym (inside_at piece ys j k))

  same_autocorrelation : autocorrelation b xs ≡ autocorrelation b ys
  unfolding autocorrelation
  same_autocorrelation =
      rw (
        same_part b.start b.first_cut (omega arith) (omega (arith, cut.lowest)) (omega (arith, cut.middle, cut.highest)),
        same_part b.first_cut b.second_cut (omega (arith, cut.lowest)) (omega (arith, cut.middle)) (omega (arith, cut.highest)),
        same_part b.second_cut b.stop (omega (arith, cut.lowest, cut.middle)) (omega (arith, cut.highest)) (omega arith),
      )

  same_record : (flag : Bool) (weighting : ℕ) → filter_record b xs flag weighting ≡ filter_record b ys flag weighting
  unfolding filter_record
  same_record flag weighting = rw same_autocorrelation

  same_filter : (flag : Bool) (weighting : ℕ) → filter_of b xs flag weighting ≡ filter_of b ys flag weighting
  unfolding filter_of reflections_of filter_record
  same_filter flag weighting = rw same_autocorrelation

-- ---- the encode call

module _ (duration bandwidth nbits : ℕ) (flag : Bool) where
  abbrev row : Row
  row = row_of (duration_of duration) bandwidth

  abbrev after : List Float → List Float
  after lines = spectrum_encoded duration bandwidth nbits flag lines

  abbrev verdict : List Float → Verdict SideData
  verdict lines = encode_verdict duration bandwidth nbits flag lines

  counted : (s : SideData) → length (filters_in s) ≡ 2
  counted s = refl

  abbrev side : List Float → SideData
  side lines = side_of row lines flag (weighting_in duration nbits)

  abbrev gains : List Float → Gains
  gains lines = gains_found duration bandwidth nbits flag lines

  sound : (lines : List Float) (s : SideData) → verdict lines ≡ accepted s → SoundRow row (length lines)
  unfolding encode_verdict
  sound lines s e = accepted_row duration bandwidth (length lines) (accepted (side lines)) s e

  -- a call leaves as many lines as it finds
  pub as_many_lines : (lines : List Float) → length (after lines) ≡ length lines
  unfolding spectrum_encoded filtered_by
  as_many_lines lines = calls.as_many_lines line_encoded (duration_of duration) bandwidth verdict filters_in 2 counted sound lines

  -- lines outside the bands never change
  pub outside_never_changes : (lines : List Float) (i : ℕ) → ((k : ℕ) → k < 2 → Outside (band_of row k) i) → get_or (after lines) i nan ≡ get_or lines i nan
  unfolding spectrum_encoded filtered_by
  outside_never_changes lines i outside = calls.outside_never_changes line_encoded (duration_of duration) bandwidth verdict filters_in 2 counted sound lines i outside

  -- so no line before the duration's first line does, and none from the row's last stop on
  pub early_lines_stay : (lines : List Float) (i : ℕ) → i < (numbers_of (duration_of duration)).first_line → get_or (after lines) i nan ≡ get_or lines i nan
  unfolding spectrum_encoded filtered_by
  early_lines_stay lines i h = calls.early_lines_stay line_encoded (duration_of duration) bandwidth verdict filters_in 2 counted sound lines i h

  pub late_lines_stay : (lines : List Float) (i : ℕ) → last_stop row ≤ i → get_or (after lines) i nan ≡ get_or lines i nan
  unfolding spectrum_encoded filtered_by
  late_lines_stay lines i h = calls.late_lines_stay line_encoded (duration_of duration) bandwidth verdict filters_in 2 counted sound lines i h

  -- And they affect nothing: of two spectra of one length that agree inside the bands, a call gives the same answer, side data and gains, and leaves
  -- lines that agree inside the bands.
  module _ (xs ys : List Float) (long : length xs ≡ length ys) (agree : (k : ℕ) → k < 2 → inside (band_of row k) xs ≡ inside (band_of row k) ys) where
    same_side : last_stop row ≤ length xs → side xs ≡ side ys
    unfolding side_of second_of
    same_side enough =
        let cut = row_cut (duration_of duration) bandwidth in
        let w = weighting_in duration nbits in
        rw (
          same_filter row.first xs ys long cut.0 (omega arith) (agree 0 (omega arith)) flag w,
          same_filter row.second xs ys long cut.1 (omega arith) (agree 1 (omega arith)) flag w,
        )

    pub same_verdict : verdict xs ≡ verdict ys
    unfolding encode_verdict
    same_verdict = ap (λ (n : ℕ). frame_checks duration bandwidth n (accepted (side xs))) long ∙ same_result duration bandwidth (length ys) (side xs) (side ys) (λ enough. same_side (omega arith))

    gains_agree : SoundRow row (length ys) → gains xs ≡ gains ys
    unfolding gains_of
    gains_agree fits =
        let cut = row_cut (duration_of duration) bandwidth in
        let w = weighting_in duration nbits in
        rw (
          same_record row.first xs ys long cut.0 (omega (arith, long, fits.first_fits.end)) (agree 0 (omega arith)) flag w,
          same_record row.second xs ys long cut.1 (omega (arith, long, fits.second_fits.end)) (agree 1 (omega arith)) flag w,
        )

    -- the gains of an accepted call; a refused one has none
    pub same_gains : gains_in (verdict xs) (gains xs) ≡ gains_in (verdict ys) (gains ys)
    same_gains = rw same_verdict (either (verdict ys) refl)
      where
        either : (v : Verdict SideData) → verdict ys ≡ v → gains_in v (gains xs) ≡ gains_in v (gains ys)
        either (accepted s) e = gains_agree (sound ys s e)
        either (refused why) e = refl

    pub same_lines : (k : ℕ) → k < 2 → inside (band_of row k) (after xs) ≡ inside (band_of row k) (after ys)
    unfolding spectrum_encoded filtered_by
    same_lines k h = calls.outside_affects_nothing line_encoded (duration_of duration) bandwidth verdict filters_in 2 counted sound xs ys same_verdict agree k h
