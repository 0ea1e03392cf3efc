-- A frame that is refused, side data that are refused, or the decoded spectrum.
use Rattle.std.proofs.Common.{rules, ◌≡◌, refl, ◌∙◌, sym, subst}
use Rattle.std.specs.Prelude.{Result, Err}
use Rattle.check_refusals.specs.declared.Refusal.{Refusal}
use Rattle.check_coded.proofs.CodedFrames.{given, frame_refuses, side_refuses, passes}
use Rattle.side_decoded.specs.DecoderFilters.{row_decoded}
use Rattle.call_decode.proofs.DecodedFrames.{DecodesFrame, refused_decode, decoded}
use Rattle.call_decode.proofs.decode.Goals as goal

pub row_decoded-requires : goal.row_decoded-requires
row_decoded-requires c =
    let f = given c.args.duration c.args.bandwidth c.args.filters c.args.orders.now c.args.indices.now c.args.lines.now in
    let p = passes f c.in_ok-row.was c.check_frame.ensures c.in_ok-side.was c.check_side.ensures.checked in
    p.bands

pub returns-in_err-row : goal.returns-in_err-row
returns-in_err-row c =
    let f = given c.args.duration c.args.bandwidth c.args.filters c.args.orders.now c.args.indices.now c.args.lines.now in
    let same : c.from_residual.result ≡ Err c.in_err-row.field-0.0 = search rules in
    subst (λ (r : Result (Unit {0}) Refusal). DecodesFrame f f.spectrum r) (sym same)
    (refused_decode f (frame_refuses f c.in_err-row.was c.check_frame.ensures))

pub returns-in_err-side : goal.returns-in_err-side
returns-in_err-side c =
    let f = given c.args.duration c.args.bandwidth c.args.filters c.args.orders.now c.args.indices.now c.args.lines.now in
    let same : c.from_residual-in_err-side.result ≡ Err c.in_err-side.field-0.0 = search rules in
    subst (λ (r : Result (Unit {0}) Refusal). DecodesFrame f f.spectrum r) (sym same)
    (refused_decode f (side_refuses f c.in_ok-row.was c.check_frame.ensures c.in_err-side.was c.check_side.ensures.checked))

pub returns : goal.returns
returns c =
    let f = given c.args.duration c.args.bandwidth c.args.filters c.args.orders.now c.args.indices.now c.args.lines.now in
    let side = c.in_ok-side.side in
    let its = c.in_ok-side.ensures.given in
    let told : row_decoded c.in_ok-row.row side.filters side.orders side.indices f.spectrum ≡ row_decoded c.in_ok-row.row f.filters f.orders f.indices f.spectrum =
    rw (its.0, its.1, its.2) refl
    in
    decoded f (passes f c.in_ok-row.was c.check_frame.ensures c.in_ok-side.was c.check_side.ensures.checked) _ (c.row_decoded.ensures ∙ told)
