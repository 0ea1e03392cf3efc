-- Laws of the shared checks 1 and 2, and 4 to 7: what they leave to the checks after them, and what is known once they find no fault.
use mathlib.Core.Path.{◌≡◌, refl}
use mathlib.Core.Bool.{Bool, true, false, ◌||◌, not}
use mathlib.Core.List.{List}
use Prim.Native.Nat.{ℕ}
use lib.Dec.{ltb, eqb}
use lib.ListN.{length}
use Rattle.check_verdicts.specs.Verdicts.{Verdict, no_fault, check}
use Rattle.check_verdicts.proofs.Verdicts.{settle, not_accepted}
use Rattle.check_limits.specs.LowestOver.{lowest_over}
use Rattle.check_limits.specs.declared.Over.{Over}
use Rattle.std.specs.Prelude.{Option, Some, None, is_none}
use native.Mathlib.Omega.{arith}
use Rattle.check_side.specs.declared.CheckedSide.{CheckedSide}
use Rattle.check_side.specs.Sides.{check_at, code_checks, side_checks, SoundSide}
use Rattle.check_side.proofs.Checks.{sides_by}

-- the shared checks answer the same whatever follows them
pub sides_settle : {A : Type 0} (filters : ℕ) (orders indices : List ℕ) (next : Verdict A)
    → side_checks filters orders indices next ≡ settle (side_checks filters orders indices no_fault) next
unfolding side_checks
sides_settle {A} filters orders indices next =
    cases (not (eqb (length orders) 2) || not (eqb (length indices) 16)) (ltb 2 filters) (lowest_over 8 0 orders) (lowest_over 16 0 indices)
  where
    cases : (a b : Bool) (o i : Option Over)
        → check 4 a (check 5 b (check_at 6 o (check_at 7 i next))) ≡ settle (check 4 a (check 5 b (check_at 6 o (check_at 7 i no_fault)))) next
    cases true b o i = refl
    cases false true o i = refl
    cases false false (Some over) i = refl
    cases false false None (Some over) = refl
    cases false false None None = refl

pub codes_settle : {A : Type 0} (duration bandwidth : ℕ) (next : Verdict A) → code_checks duration bandwidth next ≡ settle (code_checks duration bandwidth no_fault) next
codes_settle {A} duration bandwidth next = cases (ltb 1 duration) (ltb 4 bandwidth)
  where
    cases : (a b : Bool) → check 1 a (check 2 b next) ≡ settle (check 1 a (check 2 b no_fault)) next
    cases true b = refl
    cases false true = refl
    cases false false = refl

-- where the search answers none, it finds none
nowhere : (limit : ℕ) (xs : List ℕ) → is_none (lowest_over limit 0 xs) ≡ true → lowest_over limit 0 xs ≡ None
nowhere limit xs = cases (lowest_over limit 0 xs)
  where
    cases : (over : Option Over) → is_none over ≡ true → over ≡ None
    cases None e = refl
    cases (Some over) e = let z : ◌≡◌ {A = ℕ} 0 1 = cc in absurd (omega arith)

-- what is known of side data of that type
pub checked_sound : (side : CheckedSide) → length side.orders ≡ 2 → length side.indices ≡ 16 → SoundSide side.filters side.orders side.indices
checked_sound side two sixteen =
    record {
      two_orders = two;
      sixteen_indices = sixteen;
      count_at_most_2 = side.few;
      orders_at_most_8 = nowhere 8 side.orders side.orders_fine;
      indices_at_most_16 = nowhere 16 side.indices side.indices_fine;
    }

-- what is known once they find no fault
pub sound_side : (filters : ℕ) (orders indices : List ℕ) → side_checks filters orders indices no_fault ≡ no_fault → SoundSide filters orders indices
sound_side filters orders indices =
    sides_by (λ v. v ≡ no_fault → SoundSide filters orders indices) filters orders indices no_fault
    not_accepted
    not_accepted
    (λ place h. not_accepted)
    (λ place h. not_accepted)
    (λ sound e. sound)
