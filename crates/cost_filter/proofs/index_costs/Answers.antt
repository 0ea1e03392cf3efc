-- The first place has all before it, each place below the order costs what the table has for it, and past the last nothing is left.
use Rattle.std.proofs.Common.{take, arith}
use Rattle.std.proofs.Math.ListN.{length-take}
use Rattle.std.proofs.lemmas.Grind.{common_steps}
use Rattle.cost_tables.proofs.TableCosts.{index_costs_at_most}
use Rattle.cost_filter.specs.FilterCost.{index_costs}
use Rattle.cost_filter.proofs.IndexCosts.{rest, there, not_there, past_last}
use Rattle.cost_filter.proofs.index_costs.Goals as goal

pub loop-place-init : goal.loop-place-init
unfolding index_costs rest
loop-place-init c = omega arith

pub overflow_add-sum : goal.overflow_add-sum
unfolding index_costs
overflow_add-sum c =
    let l = c.loop-place in
    let order = c.args.order in
    let indices = c.args.indices.now in
    omega (
      arith,
      l.invariant,
      c.coef_bits-cost.ensures,
      there order indices l.place (omega arith) (omega arith),
      index_costs_at_most 0 (take order indices),
      length-take order indices,
    )

pub loop-place-preserved : goal.loop-place-preserved
loop-place-preserved c = grind (arith, common_steps, there, not_there)

pub returns : goal.returns
returns c = omega (arith, c.loop-place.invariant, past_last c.args.order c.args.indices.now c.loop-place.place (omega arith))
