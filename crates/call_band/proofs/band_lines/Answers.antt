-- The part that it hands back lies within the lines.
use Rattle.std.proofs.Common.{◌≡◌, ℕ, sym, subst, length, arith}
use Rattle.row_bands.specs.declared.Band.{Band}
use Rattle.row_bands.proofs.Bands.{Fits}
use Rattle.call_band.proofs.AskedFits.{asked_fits}
use Rattle.call_band.specs.AskedBand.{asked_band}
use Rattle.call_band.proofs.band_lines.Goals as goal

-- the band that was found is the one that was asked for
found_fits : (duration bandwidth filter lines : ℕ) (band : Band) → band ≡ asked_band duration bandwidth filter lines → Fits band lines
found_fits duration bandwidth filter lines band e = subst (λ (b : Band). Fits b lines) (sym e) (asked_fits duration bandwidth filter lines)

pub offset_bounds-lines-asked : goal.offset_bounds-lines-asked
offset_bounds-lines-asked c =
    let fits = found_fits c.args.duration c.args.bandwidth c.args.filter (length c.args.lines.now) c.asked_band-asked.result c.asked_band-asked.ensures in
    omega (arith, fits)

pub slice_bounds-result-count : goal.slice_bounds-result-count
slice_bounds-result-count c =
    (found_fits c.args.duration c.args.bandwidth c.args.filter (length c.args.lines.now) c.asked_band-asked.result c.asked_band-asked.ensures).order

pub slice_bounds-lines-start : goal.slice_bounds-lines-start
slice_bounds-lines-start c =
    (found_fits c.args.duration c.args.bandwidth c.args.filter (length c.args.lines.now) c.asked_band-asked.result c.asked_band-asked.ensures).order

pub slice_bounds-lines-end : goal.slice_bounds-lines-end
slice_bounds-lines-end c =
    (found_fits c.args.duration c.args.bandwidth c.args.filter (length c.args.lines.now) c.asked_band-asked.result c.asked_band-asked.ensures).end
