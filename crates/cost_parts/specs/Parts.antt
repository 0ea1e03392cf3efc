-- docs/RULES.md, "Cost before rounding (C-15)": what the planner's call tells of each filter.
use Rattle.std.specs.Prelude.{◌≡◌, List, ◌++◌, ℕ, ◌*◌, ◌-◌, take, replicate, Result}
use Rattle.law_lists.specs.Every.{EachAtMost}
use Rattle.check_verdicts.specs.Verdicts.{Verdict, unless_refused, IfAccepted, bits_in, its_bits}
use Rattle.cost_call.specs.Cost.{counted_costs, each_rounded, Priced}
use Rattle.check_refusals.specs.declared.Refusal.{Refusal}

-- two numbers, where at most two filters are counted: the cost of each counted filter, in 2048ths of a bit, and 0 for a filter that is not counted
unfoldable pub parts_of : ℕ → ℕ → List ℕ → List ℕ → List ℕ
parts_of weighting filters orders indices = counted_costs weighting filters orders indices ++ replicate (2 - filters) 0

-- What is promised of the numbers that a call finds and leaves, by the cost call's verdict, where `its` are the definition's. An accepted call leaves
-- these, each at most 83 * 2048, and the bits that it answers are those of the counted ones, each rounded up on its own. A refused call leaves what it
-- found.
pub record TellsParts (filters : ℕ) (verdict : Verdict ℕ) (its found left : List ℕ) : Type 0 where
  pub parts : left ≡ unless_refused verdict (λ bits. its) found
  pub few : IfAccepted verdict (EachAtMost (83 * 2048) left)
  pub rounded : IfAccepted verdict (bits_in its_bits verdict ≡ each_rounded (take filters left))

-- What is promised of the planner's call: the cost call's answer, and these numbers beside it.
pub record Planned (filters : ℕ) (verdict : Verdict ℕ) (its found left : List ℕ) (result : Result ℕ Refusal) : Type 0 where
  pub priced : Priced verdict result
  pub told : TellsParts filters verdict its found left
