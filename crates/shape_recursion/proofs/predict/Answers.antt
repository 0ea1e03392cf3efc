-- Eight steps are the definition's, from the row that the code writes out.
use Rattle.std.proofs.Common.{rules}
use Rattle.law_lists.specs.Places.{tab}
use Rattle.shape_recursion.specs.Recursion.{unpredicted, predicted}
use Rattle.shape_recursion.proofs.predict.Goals as goal

pub returns : goal.returns
unfolding predicted unpredicted tab
returns c = search rules
