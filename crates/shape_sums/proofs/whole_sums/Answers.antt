-- None yet, and a line more: `sums_more`.
use mathlib.Core.Path.{refl, ◌∙◌, ap}
use mathlib.Core.List.{List}
use native.Mathlib.Omega.{arith}
use lib.Ieee.{Float}
use Rattle.law_lists.specs.Places.{tab}
use Rattle.shape_sums.specs.PartialSums.{added_cell}
use Rattle.shape_sums.proofs.Adding.{sums_none, sums_more}
use Rattle.shape_sums.proofs.whole_sums.Goals as goal

pub loop-n-init : goal.loop-n-init
unfolding tab
loop-n-init c = sums_none c.args.lines.now _ refl

pub loop-n-preserved : goal.loop-n-preserved
loop-n-preserved c =
    let l = c.loop-n in
    let xs = c.args.lines.now in
    c.add_line.ensures ∙ ap (λ (s : List Float). tab (added_cell s xs l.n 9) 9) l.invariant ∙ sums_more xs l.n 9 (omega arith) (omega arith)
