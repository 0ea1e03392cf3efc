-- One or two filters, the second going on from the first one's states and lines. That of none is found by `if_none`, which the function names.
use Rattle.std.proofs.Common.{rules, ◌≡◌, arith}
use Rattle.side_decoded.proofs.CountedFilters.{if_one, two_counted}
use Rattle.side_decoded.proofs.filters_decoded.Goals as goal

pub returns-then-side-eq1 : goal.returns-then-side-eq1
returns-then-side-eq1 c = search (rules, if_one)

pub returns : goal.returns
returns c =
    let g = c.args in
    let both : g.side.now.filters ≡ 2 = omega arith in
    rw both
    (two_counted g.row g.side.now.orders g.side.now.indices g.lines.now g.states _ _ _ _ c.filter_decoded-after.ensures c.filter_decoded.ensures)
