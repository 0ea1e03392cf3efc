-- A line more: `sums_more`; once every line has added its products the sums are the subband's: `sums_all`.
use mathlib.Core.Path.{◌∙◌, ap}
use mathlib.Core.List.{List}
use Prim.Native.Nat.{◌-◌}
use native.Mathlib.Omega.{arith}
use lib.Ieee.{Float}
use lib.ListN.{length}
use Rattle.law_lists.specs.Places.{tab}
use Rattle.shape_sums.specs.PartialSums.{added_cell}
use Rattle.shape_sums.proofs.Adding.{sums_more, sums_all}
use Rattle.shape_sums.proofs.lag_sums.Goals as goal

pub loop-n-preserved : goal.loop-n-preserved
loop-n-preserved c =
    let l = c.loop-n in
    let xs = c.args.lines.now in
    c.add_line.ensures ∙ ap (λ (s : List Float). tab (added_cell s xs l.n (length xs - l.n)) 9) l.invariant
    ∙ sums_more xs l.n (length xs - l.n) (omega arith) (omega arith)

pub returns : goal.returns
returns c =
    let l = c.loop-n in
    let xs = c.args.lines.now in
    l.invariant ∙ sums_all xs l.n (omega arith)
