-- Filters of order 0 change nothing, and any others are left to `filters_decoded`.
use Rattle.side_decoded.proofs.CountedFilters.{one_idle, all_idle, row_is_decoded}
use Rattle.call_decode.proofs.row_decoded.Goals as goal

pub returns-then-side-eq1 : goal.returns-then-side-eq1
returns-then-side-eq1 c =
    let side = c.args.side.now in
    rw c.if-side-eq1.true (one_idle c.args.row side.orders side.indices c.args.lines.now c.requires c.if-side-eq0.true)

pub returns-then-side-eq0-2 : goal.returns-then-side-eq0-2
returns-then-side-eq0-2 c =
    let side = c.args.side.now in
    all_idle c.args.row side.orders side.indices c.args.lines.now c.requires c.if-side-eq0.true c.if-side-eq0-2.true side.filters side.few

pub returns : goal.returns
returns c = let side = c.args.side.now in row_is_decoded c.args.row side.orders side.indices c.args.lines.now side.filters _ _ c.filters_decoded.ensures
