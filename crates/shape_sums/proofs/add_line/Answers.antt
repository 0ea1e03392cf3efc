-- By `is_tab`, once the first m sums have their product.
use mathlib.Core.Path.{◌≡◌, ◌∙◌, ap}
use Prim.Native.Nat.{ℕ}
use native.Mathlib.Omega.{arith}
use Rattle.shape_sums.specs.PartialSums.{added_cell}
use Rattle.law_lists.proofs.Tab.{is_tab}
use Rattle.shape_sums.proofs.add_line.Goals as goal

pub returns : goal.returns
returns c =
    let l = c.loop-k in
    let g = c.args in
    let e : l.k ≡ g.m = omega arith in
    is_tab (added_cell g.sums.now g.lines.now g.n g.m) 9 l.sums l.invariant.0
    (λ j h. l.invariant.1 j h ∙ ap (λ (k : ℕ). added_cell g.sums.now g.lines.now g.n k j) e)
