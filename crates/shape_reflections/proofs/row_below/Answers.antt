-- Each place is the definition's.
use Rattle.std.proofs.Common.{rules}
use Rattle.law_lists.proofs.Made.{made_tab}
use Rattle.shape_reflections.specs.Reflections.{below_cell, row_below}
use Rattle.shape_reflections.proofs.row_below.Goals as goal

pub returns : goal.returns
unfolding row_below
returns c =
    made_tab _ _ (below_cell c.args.row c.args.k) 9 (λ n y q h call. (search rules, search rules)) c.from_fn.result c.from_fn.ensures.items
