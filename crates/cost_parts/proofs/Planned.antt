-- What an accepted call of the planner's leaves: the definition's numbers, and the cost call's answer.
use Rattle.std.proofs.Common.{Ok, ◌≡◌, List, ℕ, sym, ◌∙◌, ap}
use Rattle.check_verdicts.specs.Verdicts.{accepted}
use Rattle.check_side.specs.Sides.{SoundSide}
use Rattle.cost_call.specs.Cost.{each_rounded, cost_of, Priced}
use Rattle.cost_call.proofs.Costs.{cost_sound, cost_rounded}
use Rattle.cost_parts.specs.Parts.{parts_of, Planned, TellsParts}
use Rattle.cost_parts.proofs.Parts.{parts_at_most, counted_parts, accepted_tells}

module _ (weighting filters : ℕ) (orders indices : List ℕ) (bits : ℕ) where
  written : accepted bits ≡ cost_of weighting filters orders indices → (found : List ℕ)
      → TellsParts filters (cost_of weighting filters orders indices) (parts_of weighting filters orders indices) found (parts_of weighting filters orders indices)
  written e found =
      accepted_tells filters (cost_of weighting filters orders indices) bits e (parts_of weighting filters orders indices) found
      (parts_at_most weighting orders indices filters (cost_sound weighting filters orders indices bits e))
      (cost_rounded weighting filters orders indices bits e ∙ ap each_rounded (sym (counted_parts weighting orders indices filters)))

  pub sound_if_priced : Priced (cost_of weighting filters orders indices) (Ok bits) → SoundSide filters orders indices
  sound_if_priced p = cost_sound weighting filters orders indices bits p.answer

  pub planned : (found : List ℕ) → Priced (cost_of weighting filters orders indices) (Ok bits)
      → Planned filters (cost_of weighting filters orders indices) (parts_of weighting filters orders indices) found (parts_of weighting filters orders indices) (Ok bits)
  planned found p = record { priced = p; told = written p.answer found }
