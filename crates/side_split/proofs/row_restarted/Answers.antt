-- The run has what of the row lies from the line on, over the spectrum's lines from there on.
use Rattle.std.proofs.Common.{refl}
use Rattle.side_split.proofs.SplitRun.{restarted}
use Rattle.side_split.proofs.row_restarted.Goals as goal

pub returns : goal.returns
returns c =
    let g = c.args in
    restarted g.n g.row g.side.now.filters g.side.now.orders g.side.now.indices g.spectrum.now _ c.requires g.output.now refl _ c.row_from_line-rest.ensures
    _ _ _ _ c.copy_from.ensures c.filters_decoded.ensures
