-- One law over the enum of the eight refusals. No other proof lists its cases: what it has to know of them follows from this. A refusal of another
-- kind has an enum and a law like this of its own, and touches neither the eight nor the laws of verdicts.
use mathlib.Core.Path.{◌≡◌, refl}
use mathlib.Core.Bool.{cond}
use mathlib.Core.List.{List, [], ◌∷◌}
use Prim.Native.Nat.{ℕ, ◌≤◌, ◌<◌}
use native.Mathlib.Omega.{arith}
use lib.Dec.{eqb}
use denote.Enum.Declared.{tag_of}
use types.Run.{OneOf, miss}
use Rattle.check_verdicts.specs.Verdicts.{Fault, numbered, placed, number_of}
use Rattle.check_refusals.specs.Refusals.{says}
use Rattle.check_refusals.specs.declared.Refusal.{Refusal}
use Rattle.check_refusals.specs.declared.Refusal.TheVariants.{Duration, Bandwidth, SpectrumLength, ListLength, FilterCount, Order, Index, Weighting}
use Rattle.check_refusals.specs.contracts.Refusal.{the_type}

-- the refusal back from its fault
abbrev pub refusal_back : Fault → Refusal
refusal_back (numbered n) =
    cond (eqb n 1) Duration (cond (eqb n 2) Bandwidth (cond (eqb n 3) SpectrumLength (cond (eqb n 4) ListLength (cond (eqb n 5) FilterCount Weighting))))
refusal_back (placed n place found) = cond (eqb n 6) (Order place found) (Index place found)

-- where the enum has those that are neither of an order nor of an index
abbrev pub unplaced : List ℕ
unplaced = 0 ∷ 1 ∷ 2 ∷ 3 ∷ 4 ∷ 7 ∷ []

-- a refusal has a number from 1 to 8, its fault gives it back, and it has a number alone where it names no place
pub record OfEight (why : Refusal) : Type 0 where
  pub has_number : 0 < number_of (says why)
  pub at_most_8 : number_of (says why) ≤ 8
  pub back : refusal_back (says why) ≡ why
  pub alone : OneOf unplaced (tag_of the_type why) → says why ≡ numbered (number_of (says why))

pub of_eight : (why : Refusal) → OfEight why
of_eight Duration = record { has_number = omega arith; at_most_8 = omega arith; back = refl; alone = λ keys. refl }
of_eight Bandwidth = record { has_number = omega arith; at_most_8 = omega arith; back = refl; alone = λ keys. refl }
of_eight SpectrumLength = record { has_number = omega arith; at_most_8 = omega arith; back = refl; alone = λ keys. refl }
of_eight ListLength = record { has_number = omega arith; at_most_8 = omega arith; back = refl; alone = λ keys. refl }
of_eight FilterCount = record { has_number = omega arith; at_most_8 = omega arith; back = refl; alone = λ keys. refl }
of_eight (Order place found) = record { has_number = omega arith; at_most_8 = omega arith; back = refl; alone = λ keys. absurd (miss unplaced 5 tt keys) }
of_eight (Index place found) = record { has_number = omega arith; at_most_8 = omega arith; back = refl; alone = λ keys. absurd (miss unplaced 6 tt keys) }
of_eight Weighting = record { has_number = omega arith; at_most_8 = omega arith; back = refl; alone = λ keys. refl }
