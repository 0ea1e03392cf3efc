-- The invariant: the sum so far and what the places from here on cost, below the order, are what all of them cost.
use Rattle.std.proofs.Common.{◌≡◌, ◌+◌, take}
use Rattle.cost_filter.specs.FilterCost.{index_costs}
use Rattle.cost_filter.proofs.IndexCosts.{rest}
use Rattle.cost_filter.proofs.index_costs.Given as goal

abbrev pub invariant-loop-place : goal.invariant-loop-place
invariant-loop-place l = l.sum + rest l.order l.indices l.place ≡ index_costs (take l.order l.indices)
