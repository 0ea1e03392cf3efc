-- What is accepted leaves the definition's numbers.
use Rattle.std.proofs.Common.{arith}
use Rattle.std.proofs.lemmas.Grind.{common_steps}
use Rattle.cost_parts.proofs.Planned.{planned}
use Rattle.cost_parts.proofs.cost_2048ths.Goals as goal

pub returns : goal.returns
returns c = grind (arith, common_steps, planned c.args.weighting c.args.filters c.args.orders.now c.args.indices.now c.in_ok-bits.bits c.args.parts.now c.in_ok-bits.ensures)
