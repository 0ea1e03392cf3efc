-- docs/RULES.md, "Band rows": no line outside the bands changes, and no result depends on one. The laws of any call that filters its bands, of the decode
-- call.
use mathlib.Core.Path.{◌≡◌, ap}
use mathlib.Core.List.{List}
use Prim.Native.Nat.{ℕ, ◌≤◌, ◌<◌}
use lib.Ieee.{Float, nan}
use lib.ListN.{length, get_or}
use Rattle.law_lists.specs.Counted.{counted}
use Rattle.law_lists.proofs.Counted.{counted_length}
use Rattle.check_verdicts.specs.Verdicts.{Verdict, accepted, no_fault}
use Rattle.check_side.specs.Sides.{side_checks}
use Rattle.row_durations.specs.Durations.{numbers_of, duration_of}
use Rattle.row_bands.specs.Bands.{row_of, band_of, last_stop, inside}
use Rattle.row_bands.specs.declared.Row.{Row}
use Rattle.row_bands.proofs.Bands.{SoundRow}
use Rattle.row_bands.proofs.Apart.{Outside}
use Rattle.check_frame.proofs.Frames.{accepted_row}
use Rattle.lattice_decoder.specs.DecoderLattice.{line_decoded}
use Rattle.lattice_rows.specs.Filters.{Filter}
use Rattle.lattice_rows.proofs.OutsideBands as calls
use Rattle.side_decoded.specs.DecoderFilters.{decoder_filter, row_decoded}
use Rattle.call_decode.specs.Decoder.{decode_checks, spectrum_decoded}

module _ (duration bandwidth filters : ℕ) (orders indices : List ℕ) where
  abbrev row : Row
  row = row_of (duration_of duration) bandwidth

  abbrev after : List Float → List Float
  after lines = spectrum_decoded duration bandwidth filters orders indices lines

  abbrev verdict : List Float → Verdict (Unit {0})
  verdict lines = decode_checks duration bandwidth filters orders indices (length lines)

  abbrev acting : Unit {0} → List Filter
  acting u = counted decoder_filter filters orders indices

  as_counted : (u : Unit {0}) → length (acting u) ≡ filters
  as_counted u = counted_length decoder_filter filters orders indices

  sound : (lines : List Float) (u : Unit {0}) → verdict lines ≡ accepted u → SoundRow row (length lines)
  unfolding decode_checks
  sound lines u e = accepted_row duration bandwidth (length lines) (side_checks filters orders indices no_fault) u e

  -- a call leaves as many lines as it finds
  pub as_many_lines : (lines : List Float) → length (after lines) ≡ length lines
  unfolding spectrum_decoded row_decoded
  as_many_lines lines = calls.as_many_lines line_decoded (duration_of duration) bandwidth verdict acting filters as_counted sound lines

  -- lines outside the bands of the counted filters never change
  pub outside_never_changes : (lines : List Float) (i : ℕ) → ((k : ℕ) → k < filters → Outside (band_of row k) i) → get_or (after lines) i nan ≡ get_or lines i nan
  unfolding spectrum_decoded row_decoded
  outside_never_changes lines i outside = calls.outside_never_changes line_decoded (duration_of duration) bandwidth verdict acting filters as_counted sound lines i outside

  -- so no line before the duration's first line does, whatever the bandwidth and the count, and none from the row's last stop on
  pub early_lines_stay : (lines : List Float) (i : ℕ) → i < (numbers_of (duration_of duration)).first_line → get_or (after lines) i nan ≡ get_or lines i nan
  unfolding spectrum_decoded row_decoded
  early_lines_stay lines i h = calls.early_lines_stay line_decoded (duration_of duration) bandwidth verdict acting filters as_counted sound lines i h

  pub late_lines_stay : (lines : List Float) (i : ℕ) → last_stop row ≤ i → get_or (after lines) i nan ≡ get_or lines i nan
  unfolding spectrum_decoded row_decoded
  late_lines_stay lines i h = calls.late_lines_stay line_decoded (duration_of duration) bandwidth verdict acting filters as_counted sound lines i h

  -- and they affect nothing: two spectra that agree inside the bands of the counted filters are decoded to spectra that agree there
  pub outside_affects_nothing : (xs ys : List Float) → length xs ≡ length ys → ((k : ℕ) → k < filters → inside (band_of row k) xs ≡ inside (band_of row k) ys)
      → (k : ℕ) → k < filters → inside (band_of row k) (after xs) ≡ inside (band_of row k) (after ys)
  unfolding spectrum_decoded row_decoded
  outside_affects_nothing xs ys long agree k h =
      calls.outside_affects_nothing line_decoded (duration_of duration) bandwidth verdict acting filters as_counted sound xs ys
      (ap (decode_checks duration bandwidth filters orders indices) long) agree k h
