-- The side data and the gains are the definition's, and so are the bits and the lines that the side data leave.
use Rattle.std.proofs.Common.{sym, ap, subst}
use Rattle.shape_frame.specs.declared.Found.{Found}
use Rattle.side_data.specs.Limits.{Reported}
use Rattle.shape_frame.proofs.FrameLimits.{side_reported}
use Rattle.call_encode.proofs.row_encoded.Goals as goal

pub two_encoded-requires-clause-reported : goal.two_encoded-requires-clause-reported
two_encoded-requires-clause-reported c =
    subst Reported (sym (ap (λ (f : Found). f.side) c.analyse_frame-found.ensures)) (side_reported c.args.row c.args.lines.now c.args.flag c.args.weighting)
