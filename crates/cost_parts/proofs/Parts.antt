-- Laws of the two numbers: their bound, the bits of the counted ones, and the numbers by their places.
use mathlib.Core.Path.{◌≡◌, refl, sym, ◌∙◌}
use mathlib.Core.List.{List, [], ◌∷◌}
use mathlib.Core.Bool.{cond}
use Prim.Native.Nat.{ℕ, zero, suc, ◌*◌, ◌-◌, ◌<◌, ◌≤◌}
use lib.Dec.{ltb}
use native.Mathlib.Decide.{dec_lt}
use borrow.Author.Tests.{lt-ltb, le-ltb}
use native.Mathlib.Omega.{arith}
use lib.ListN.{length, get_or, take, drop, replicate}
use lib.Seq.{take_at, get_or-drop}
use Rattle.law_lists.specs.Counted.{counted}
use Rattle.law_lists.specs.Every.{EachAtMost}
use Rattle.law_lists.proofs.Counted.{counted_length}
use Rattle.law_lists.proofs.Every.{both_at_most, zeros_at_most}
use Rattle.check_limits.proofs.Stands.{none_over}
use Rattle.check_side.specs.Sides.{SoundSide}
use Rattle.check_verdicts.specs.Verdicts.{Verdict, accepted, refused, Fault}
use Rattle.check_verdicts.proofs.Verdicts.{not_accepted}
use Rattle.cost_filter.specs.FilterCost.{filter_cost}
use Rattle.cost_call.specs.Cost.{counted_costs, each_rounded}
use Rattle.cost_call.proofs.Costs.{costs_at_most}
use Rattle.cost_parts.specs.Parts.{parts_of, TellsParts}

module _ (weighting : ℕ) (orders indices : List ℕ) where
  costs_length : (filters : ℕ) → length (counted_costs weighting filters orders indices) ≡ filters
  unfolding counted_costs
  costs_length filters = counted_length (filter_cost weighting) filters orders indices

  module _ (filters : ℕ) (sound : SoundSide filters orders indices) where
    pub parts_at_most : EachAtMost (83 * 2048) (parts_of weighting filters orders indices)
    unfolding parts_of
    parts_at_most =
        both_at_most (83 * 2048) (counted_costs weighting filters orders indices) (replicate (2 - filters) 0)
        (costs_at_most weighting filters orders indices (none_over 8 0 orders sound.orders_at_most_8))
        (zeros_at_most (83 * 2048) (2 - filters))

  -- the counted ones are the first
  pub counted_parts : (filters : ℕ) → take filters (parts_of weighting filters orders indices) ≡ counted_costs weighting filters orders indices
  unfolding parts_of
  counted_parts filters = take_at (counted_costs weighting filters orders indices) (replicate (2 - filters) 0) filters (costs_length filters)

-- what a refused call leaves is what it found
pub refused_tells : (filters : ℕ) (verdict : Verdict ℕ) (why : Fault) → refused why ≡ verdict → (its found : List ℕ) → TellsParts filters verdict its found found
refused_tells filters (accepted bits) why e its found = not_accepted e
refused_tells filters (refused fault) why e its found = record { parts = refl; few = tt; rounded = tt }

-- and what an accepted one leaves
pub accepted_tells : (filters : ℕ) (verdict : Verdict ℕ) (bits : ℕ) → accepted bits ≡ verdict → (its found : List ℕ) → EachAtMost (83 * 2048) its
    → bits ≡ each_rounded (take filters its) → TellsParts filters verdict its found its
accepted_tells filters (accepted n) bits e its found few rounded = let same : n ≡ bits = cc in record { parts = refl; few = few; rounded = same ∙ rounded }
accepted_tells filters (refused fault) bits e its found few rounded = not_accepted (sym e)

-- ---- the two numbers by their places

-- the number at a place
abbrev pub part_at : ℕ → ℕ → List ℕ → List ℕ → ℕ → ℕ
part_at weighting filters orders indices filter = cond (ltb filter filters) (filter_cost weighting (get_or orders filter 0) (take 8 (drop (8 * filter) indices))) 0

pub part_is : (weighting filters : ℕ) (orders indices : List ℕ) (filter n : ℕ)
    → (filter < filters → n ≡ filter_cost weighting (get_or orders filter 0) (take 8 (drop (8 * filter) indices))) → (filters ≤ filter → n ≡ 0)
    → n ≡ part_at weighting filters orders indices filter
part_is weighting filters orders indices filter n counted not = elim (dec_lt filter filters) [
  | yes below ↦ rw (lt-ltb filter filters below) (counted below)
  | no beyond ↦ rw (le-ltb filter filters (omega arith)) (not (omega arith))
]

two_are : (xs : List ℕ) (a b : ℕ) → length xs ≡ 2 → get_or xs 0 0 ≡ a → get_or xs 1 0 ≡ b → xs ≡ a ∷ b ∷ []
two_are [] a b two first second = absurd (omega arith)
two_are (x ∷ []) a b two first second = absurd (omega arith)
two_are (x ∷ y ∷ []) a b two first second = cc
two_are (x ∷ y ∷ z ∷ xs) a b two first second = absurd (omega arith)

pub by_places : (weighting filters : ℕ) (orders indices xs : List ℕ) → filters ≤ 2 → length xs ≡ 2
    → ((filter : ℕ) → filter < 2 → get_or xs filter 0 ≡ part_at weighting filters orders indices filter) → xs ≡ parts_of weighting filters orders indices
unfolding parts_of counted_costs counted
by_places weighting zero orders indices xs few two each = two_are xs _ _ two (each 0 (omega arith)) (each 1 (omega arith))
by_places weighting (suc zero) orders indices xs few two each = two_are xs _ _ two (each 0 (omega arith)) (each 1 (omega arith))
by_places weighting (suc (suc zero)) orders indices xs few two each =
    rw (get_or-drop 1 orders 0 0) (two_are xs _ _ two (each 0 (omega arith)) (each 1 (omega arith)))
by_places weighting (suc (suc (suc filters))) orders indices xs few two each = absurd (omega arith)
