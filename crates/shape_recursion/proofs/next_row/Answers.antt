-- Each place is the definition's.
use Rattle.std.proofs.Common.{rules}
use Rattle.law_lists.proofs.Made.{made_tab}
use Rattle.shape_recursion.specs.Recursion.{row_cell, next_row}
use Rattle.shape_recursion.proofs.next_row.Goals as goal

pub returns : goal.returns
unfolding next_row
returns c =
    made_tab _ _ (row_cell c.args.last c.args.rc c.args.k) 9 (λ n y q h call. (search rules, search rules)) c.from_fn.result c.from_fn.ensures.items
