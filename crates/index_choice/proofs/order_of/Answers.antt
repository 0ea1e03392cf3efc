-- The place that is found is the last whose index is not 8; if none is found, all are 8.
use Rattle.std.proofs.Common.{rules, sym}
use Rattle.index_choice.proofs.OrderOf.{order_none, order_last}
use Rattle.index_choice.proofs.order_of.Goals as goal

pub returns-in-Some : goal.returns-in-Some
returns-in-Some c = sym (order_last c.args.indices c.in-Some.place (search rules) (search rules) (λ k l h. search rules))

pub returns-in-None : goal.returns-in-None
returns-in-None c = sym (order_none c.args.indices (λ k l. search rules))
