-- One law over everything that checks of side data can say: what holds of each refusal that they can give, and of what follows them, holds of their
-- answer.
use mathlib.Core.Path.{◌≡◌, refl, subst}
use mathlib.Core.Bool.{Bool, true, false, ◌||◌, not}
use mathlib.Core.List.{List}
use Prim.Native.Nat.{ℕ, ◌-◌, ◌<◌}
use native.Mathlib.Omega.{arith}
use lib.Dec.{ltb, eqb}
use borrow.Author.Tests.{ltb-false, eqb-true}
use lib.ListN.{length, get_or}
use Rattle.check_verdicts.specs.Verdicts.{Verdict, numbered, placed, refused, check}
use Rattle.check_verdicts.proofs.Verdicts.{check_by}
use Rattle.check_limits.specs.LowestOver.{lowest_over}
use Rattle.check_limits.specs.declared.Over.{Over}
use Rattle.std.specs.Prelude.{Option, Some, None}
use Rattle.check_limits.proofs.Stands.{found_stands}
use Rattle.check_side.specs.Sides.{check_at, side_checks, SoundSide}

module _ {A : Type 0} (P : Verdict A → Type 0) where
  check_at_by : (number limit : ℕ) (xs : List ℕ) (next : Verdict A) → ((place : ℕ) → place < length xs → P (refused (placed number place (get_or xs place 0))))
      → (lowest_over limit 0 xs ≡ None → P next) → P (check_at number (lowest_over limit 0 xs) next)
  check_at_by number limit xs next stops goes = cases (lowest_over limit 0 xs) refl
    where
      cases : (over : Option Over) → lowest_over limit 0 xs ≡ over → P (check_at number over next)
      cases None e = goes e
      cases (Some over) e =
          let s = found_stands limit 0 xs over.place over.found e in
          let k : over.place - 0 ≡ over.place = omega arith in
          subst (λ (f : ℕ). P (refused (placed number over.place f))) (subst (λ (k : ℕ). get_or xs k 0 ≡ over.found) k s.its_number)
          (stops over.place (omega (arith, s.before-end)))

  -- checks 4 to 7: a refusal 6 names one of the two orders, 7 one of the sixteen indices, and what follows has sound side data before it
  pub sides_by : (filters : ℕ) (orders indices : List ℕ) (next : Verdict A) → P (refused (numbered 4)) → P (refused (numbered 5))
      → ((place : ℕ) → place < 2 → P (refused (placed 6 place (get_or orders place 0))))
      → ((place : ℕ) → place < 16 → P (refused (placed 7 place (get_or indices place 0))))
      → (SoundSide filters orders indices → P next) → P (side_checks filters orders indices next)
  unfolding side_checks
  sides_by filters orders indices next stops4 stops5 stops6 stops7 goes = cases (eqb (length orders) 2) refl (eqb (length indices) 16) refl
    where
      after-4 : length orders ≡ 2 → length indices ≡ 16
          → P (check 5 (ltb 2 filters) (check_at 6 (lowest_over 8 0 orders) (check_at 7 (lowest_over 16 0 indices) next)))
      after-4 two sixteen =
          check_by P 5 (ltb 2 filters) _ stops5 (λ few.
          check_at_by 6 8 orders _ (λ place h. stops6 place (omega (arith, two, h))) (λ orders-fine.
          check_at_by 7 16 indices next (λ place h. stops7 place (omega (arith, sixteen, h))) (λ indices-fine.
          goes
          (record {
            two_orders = two;
            sixteen_indices = sixteen;
            count_at_most_2 = ltb-false 2 filters few;
            orders_at_most_8 = orders-fine;
            indices_at_most_16 = indices-fine;
          }))))

      cases : (a : Bool) → eqb (length orders) 2 ≡ a → (b : Bool) → eqb (length indices) 16 ≡ b
          → P (check 4 (not a || not b) (check 5 (ltb 2 filters) (check_at 6 (lowest_over 8 0 orders) (check_at 7 (lowest_over 16 0 indices) next))))
      cases false ea b eb = stops4
      cases true ea false eb = stops4
      cases true ea true eb = after-4 (eqb-true (length orders) 2 ea) (eqb-true (length indices) 16 eb)
