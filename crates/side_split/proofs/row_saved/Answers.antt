-- The first run has what of the row lies below the line, and the second what lies from it on.
use Rattle.side_split.proofs.SplitRun.{saved}
use Rattle.side_split.proofs.row_saved.Goals as goal

pub returns : goal.returns
returns c =
    let g = c.args in
    saved g.n g.row g.side.now.filters g.side.now.orders g.side.now.indices g.spectrum.now _ c.requires _ _ c.row_below_line-below.ensures c.row_from_line-rest.ensures
    _ _ _ _ _ c.copy_from.ensures c.filters_decoded-before.ensures c.filters_decoded.ensures
