-- A frame that is refused, or the definition's filters and lines.
use Rattle.std.proofs.Common.{rules, ◌≡◌, ℕ, sym, ◌∙◌, ap, subst, length, get_or}
use lib.Dec.{T}
use lib.Ieee.{nan, binary32, fits}
use Rattle.check_refusals.specs.Refusals.{says}
use Rattle.row_durations.specs.Durations.{numbers_of, duration_of, weighting_of}
use Rattle.row_bands.specs.Bands.{row_of}
use Rattle.row_durations.specs.declared.Duration.{Duration}
use Rattle.row_bands.specs.declared.Row.{Row}
use Rattle.row_bands.proofs.Bands.{SoundRow}
use Rattle.check_frame.proofs.Frames.{sound_frame, sound_row}
use Rattle.shape_lags.specs.LongBands.{LongRow}
use Rattle.shape_lags.proofs.LongRows.{row_long}
use Rattle.check_verdicts.specs.Verdicts.{verdict_by}
use Rattle.call_encode.specs.Encoder.{weighting_in}
use Rattle.call_encode.specs.declared.Encoded.{Encoded}
use Rattle.call_encode.proofs.EncodeVerdict.{frame_refused, frame_passed, encodes_refused, encodes_accepted}
use Rattle.call_encode.proofs.NearFound.{frame_near}
use Rattle.call_encode.proofs.Reported.{reported_bits_at_most}
use Rattle.call_encode.proofs.encode.Goals as goal

pub row_encoded-requires-clause-sound_row : goal.row_encoded-requires-clause-sound_row
row_encoded-requires-clause-sound_row c =
    sound_row c.args.duration c.args.bandwidth (length c.args.lines.now) c.in-Ok.row (sym c.in-Ok.ensures)

pub row_encoded-requires-clause-long_row : goal.row_encoded-requires-clause-long_row
row_encoded-requires-clause-long_row c =
    let lines = length c.args.lines.now in
    let sound = sound_frame c.args.duration c.args.bandwidth lines c.in-Ok.row (sym c.in-Ok.ensures) in
    subst (λ (r : Row). LongRow r lines) (sym sound.its_row) (row_long (duration_of c.args.duration) c.args.bandwidth lines sound.narrow sound.enough)

pub returns-in-Err : goal.returns-in-Err
returns-in-Err c =
    let g = c.args in
    let why = says c.in-Err.why in
    rw (frame_refused g.duration g.bandwidth g.nbits g.flag g.lines.now why c.in-Err.ensures)
    (encodes_refused why _ _ g.lines.now c.refused.result (ap (λ (r : Encoded). verdict_by says r.answer) c.refused.ensures)
    (ap (λ (r : Encoded). r.side) c.refused.ensures) (ap (λ (r : Encoded). r.gains) c.refused.ensures))

pub returns-in-Ok : goal.returns-in-Ok
returns-in-Ok c =
    let g = c.args in
    let xs = g.lines.now in
    let own = row_of (duration_of g.duration) g.bandwidth in
    let weighting = weighting_in g.duration g.nbits in
    let row = c.in-Ok.row in
    let call = frame_passed g.duration g.bandwidth g.nbits g.flag xs row c.in-Ok.ensures in
    let w : c.lpc_weighting-weighting.result ≡ weighting =
    c.lpc_weighting-weighting.ensures ∙ ap (λ (d : Duration). weighting_of (numbers_of d) g.nbits) c.duration_of.ensures
    in
    let sound : SoundRow own (length xs) = subst (λ (row : Row). SoundRow row (length xs)) call.0 (sound_row g.duration g.bandwidth (length xs) row (sym c.in-Ok.ensures)) in
    let fit : (j : ℕ) → T (fits binary32 (get_or xs j nan)) = search rules in
    let promised = c.row_encoded.ensures in
    rw call.1
    (encodes_accepted row own g.flag c.lpc_weighting-weighting.result weighting xs _ c.row_encoded.result call.0 w promised.answer promised.side
    promised.gains promised.lines (frame_near (duration_of g.duration) g.bandwidth g.flag weighting xs sound fit) (reported_bits_at_most own xs g.flag weighting))
