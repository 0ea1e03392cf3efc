-- What the cost call answers, and why: what the shared checks refuse is refused, then a weighting over 1, and the rest has its bits.
use Rattle.std.proofs.Common.{Result, Ok, Err, ◌≡◌, List, ℕ, ◌<◌, ◌≤◌, ltb, sym, ◌∙◌, subst}
use borrow.Author.Tests.{lt-ltb, le-ltb}
use Rattle.check_verdicts.specs.Verdicts.{numbered, Verdict, verdict_by, accepted, no_fault, refused, bits_in, its_bits, check}
use Rattle.check_side.proofs.Sides.{sides_settle}
use Rattle.check_refusals.specs.Refusals.{says}
use Rattle.check_side.specs.Sides.{side_checks}
use Rattle.cost_call.specs.Cost.{cost_of, counted_bits, Priced}
use Rattle.check_refusals.specs.declared.Refusal.{Refusal}
use Rattle.check_refusals.specs.declared.Refusal.TheVariants.{Weighting}
use Rattle.check_verdicts.proofs.Verdicts.{settle}
use Rattle.cost_call.proofs.Costs.{cost_at_most}

module _ (weighting filters : ℕ) (orders indices : List ℕ) where
  -- what the shared checks say, and then the last check
  by_sides : (v : Verdict (Unit {0})) → v ≡ side_checks filters orders indices no_fault
      → cost_of weighting filters orders indices ≡ settle v (check 8 (ltb 1 weighting) (accepted (counted_bits weighting filters orders indices)))
  unfolding cost_of
  by_sides v e = rw e (sides_settle filters orders indices _)

  refused_before : (why : Refusal) → refused (says why) ≡ side_checks filters orders indices no_fault → refused (says why) ≡ cost_of weighting filters orders indices
  refused_before why e = sym (by_sides (refused (says why)) e)

  module _ (fine : no_fault ≡ side_checks filters orders indices no_fault) where
    refused_here : 1 < weighting → refused (numbered 8) ≡ cost_of weighting filters orders indices
    refused_here h = sym (by_sides no_fault fine ∙ simp (lt-ltb _ _ h))

    has_bits : weighting ≤ 1 → accepted (counted_bits weighting filters orders indices) ≡ cost_of weighting filters orders indices
    has_bits h = sym (by_sides no_fault fine ∙ simp (le-ltb _ _ h))

-- a result that says what the definition does has at most 168 bits
few : (answer : Result ℕ Refusal) (weighting filters : ℕ) (orders indices : List ℕ) → verdict_by says answer ≡ cost_of weighting filters orders indices
    → Priced (cost_of weighting filters orders indices) answer
few answer weighting filters orders indices e =
    record { answer = e; few = subst (λ (v : Verdict ℕ). bits_in its_bits v ≤ 168) (sym e) (cost_at_most weighting filters orders indices) }

module _ (weighting filters : ℕ) (orders indices : List ℕ) where
  pub refused_early : (why : Refusal) → refused (says why) ≡ side_checks filters orders indices no_fault
      → Priced (cost_of weighting filters orders indices) (Err why)
  refused_early why e = few (Err why) weighting filters orders indices (refused_before weighting filters orders indices why e)

  pub refused_late : no_fault ≡ side_checks filters orders indices no_fault → 1 < weighting → Priced (cost_of weighting filters orders indices) (Err Weighting)
  refused_late fine h = few (Err Weighting) weighting filters orders indices (refused_here weighting filters orders indices fine h)

  pub bits_stand : no_fault ≡ side_checks filters orders indices no_fault → weighting ≤ 1
      → Priced (cost_of weighting filters orders indices) (Ok (counted_bits weighting filters orders indices))
  bits_stand fine h = few (Ok (counted_bits weighting filters orders indices)) weighting filters orders indices (has_bits weighting filters orders indices fine h)
