-- A frame, side data, a line or an output that is refused; or the lines from the line on.
use Rattle.std.proofs.Common.{rules, ◌≡◌, refl, ◌∙◌, ◌++◌, length, take, sym, subst}
use Rattle.std.specs.Prelude.{Result, Err}
use Rattle.check_coded.proofs.CodedFrames.{given, frame_refuses, side_refuses, passes}
use Rattle.check_line.specs.declared.LineRefusal.{LineRefusal}
use Rattle.check_line.specs.declared.LineRefusal.TheVariants.{Call}
use Rattle.check_line.proofs.LineChecks.{refused_at_line, line_refuses, line_passes}
use Rattle.side_split.specs.SplitRun.{lines_from}
use Rattle.call_restart.proofs.SplitFrames.{RestartsFrame, refused_restart, restarted}
use Rattle.call_restart.proofs.restart.Goals as goal

pub row_restarted-requires : goal.row_restarted-requires
row_restarted-requires c =
    let f = given c.args.duration c.args.bandwidth c.args.filters c.args.orders.now c.args.indices.now c.args.spectrum.now in
    let its = c.in_ok-side.ensures.given in
    rw (its.0, its.1, its.2)
    ((line_passes f c.args.n (length c.args.output.now) (passes f c.in_ok-row.was c.check_frame.ensures c.in_ok-side.was c.check_side.ensures.checked) c.in_ok-check_line.was c.check_line.ensures).ready)

pub returns-in_err-row : goal.returns-in_err-row
returns-in_err-row c =
    let f = given c.args.duration c.args.bandwidth c.args.filters c.args.orders.now c.args.indices.now c.args.spectrum.now in
    let same : c.from_residual.result ≡ Err (Call c.in_err-row.field-0.0) = search rules in
    subst (λ (r : Result (Unit {0}) LineRefusal). RestartsFrame f c.args.n c.args.states.now c.args.output.now c.args.output.now r) (sym same)
    (refused_restart f c.args.n c.args.states.now c.args.output.now (refused_at_line f c.args.n (length c.args.output.now) (frame_refuses f c.in_err-row.was c.check_frame.ensures)))

pub returns-in_err-side : goal.returns-in_err-side
returns-in_err-side c =
    let f = given c.args.duration c.args.bandwidth c.args.filters c.args.orders.now c.args.indices.now c.args.spectrum.now in
    let same : c.from_residual-in_err-side.result ≡ Err (Call c.in_err-side.field-0.0) = search rules in
    subst (λ (r : Result (Unit {0}) LineRefusal). RestartsFrame f c.args.n c.args.states.now c.args.output.now c.args.output.now r) (sym same)
    (refused_restart f c.args.n c.args.states.now c.args.output.now
    (refused_at_line f c.args.n (length c.args.output.now) (side_refuses f c.in_ok-row.was c.check_frame.ensures c.in_err-side.was c.check_side.ensures.checked)))

pub returns-in_err-check_line : goal.returns-in_err-check_line
returns-in_err-check_line c =
    let f = given c.args.duration c.args.bandwidth c.args.filters c.args.orders.now c.args.indices.now c.args.spectrum.now in
    let same : c.from_residual-in_err-check_line.result ≡ Err c.in_err-check_line.field-0.0 = search rules in
    subst (λ (r : Result (Unit {0}) LineRefusal). RestartsFrame f c.args.n c.args.states.now c.args.output.now c.args.output.now r) (sym same)
    (refused_restart f c.args.n c.args.states.now c.args.output.now
    (line_refuses f c.args.n (length c.args.output.now) (passes f c.in_ok-row.was c.check_frame.ensures c.in_ok-side.was c.check_side.ensures.checked) c.in_err-check_line.was c.check_line.ensures))

pub returns : goal.returns
returns c =
    let f = given c.args.duration c.args.bandwidth c.args.filters c.args.orders.now c.args.indices.now c.args.spectrum.now in
    let its = c.in_ok-side.ensures.given in
    let side = c.in_ok-side.side in
    let same : take c.args.n c.args.output.now ++ lines_from c.args.n c.in_ok-row.row side.filters side.orders side.indices c.args.states.now f.spectrum
    ≡ take c.args.n c.args.output.now ++ lines_from c.args.n c.in_ok-row.row f.filters f.orders f.indices c.args.states.now f.spectrum =
    rw (its.0, its.1, its.2) refl
    in
    restarted f c.args.n c.args.states.now c.args.output.now
    (line_passes f c.args.n (length c.args.output.now) (passes f c.in_ok-row.was c.check_frame.ensures c.in_ok-side.was c.check_side.ensures.checked) c.in_ok-check_line.was c.check_line.ensures)
    (c.row_restarted.ensures ∙ same)
