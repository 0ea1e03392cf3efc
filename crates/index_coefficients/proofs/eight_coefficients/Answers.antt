-- Each index gives its coefficient: the table's, or 0 past the table.
use Rattle.std.proofs.Common.{rules}
use lib.Ieee.{of_bits}
use Rattle.law_lists.proofs.Made.{mapped}
use Rattle.index_coefficients.specs.Coefficients.{coefficient_of}
use Rattle.index_coefficients.proofs.eight_coefficients.Goals as goal

pub returns : goal.returns
unfolding coefficient_of of_bits
returns c = mapped _ _ coefficient_of (λ x y q call. (search rules, search rules)) 0 c.args.indices c.map.result 8 (search rules) c.map.ensures.items
