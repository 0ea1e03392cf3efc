-- Each index gives its coefficient.
use Rattle.std.proofs.Common.{rules}
use Rattle.law_lists.proofs.Made.{mapped}
use Rattle.index_coefficients.specs.Coefficients.{coefficient_of}
use Rattle.side_quantized.proofs.table_coefficients.Goals as goal

pub returns : goal.returns
returns c = mapped _ _ coefficient_of (λ x y q call. (search rules, search rules)) 0 c.args.indices c.map.result 8 (search rules) c.map.ensures.items
