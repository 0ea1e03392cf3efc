-- The search for the lowest number over a limit, by std's words for what the code's iterators find: a fold that comes to true, and a first place.
use mathlib.Core.Path.{◌≡◌, refl, sym, ◌∙◌, subst}
use mathlib.Core.Bool.{Bool, true, false, cond, ◌&&◌, not}
use mathlib.Core.List.{List, [], ◌∷◌}
use Prim.Native.Nat.{ℕ, suc, ◌+◌, ◌-◌}
use native.Mathlib.Omega.{arith}
use native.Mathlib.Numerals.{add-one}
use lib.Dec.{ltb}
use lib.ListN.{get_or}
use Rattle.std.proofs.Common.{rules}
use Rattle.std.specs.Prelude.{Option, Some, None, is_none, fold, position, nat_le, nat_lt}
use Rattle.std.specs.Option.{option_map}
use Rattle.std.specs.List.{position_from}
use Rattle.std.proofs.lemmas.Iterator.Adapters.{position_from-zero}
use Rattle.check_limits.specs.LowestOver.{lowest_over}
use Rattle.check_limits.specs.declared.Over.{Over}
use Rattle.law_results.proofs.Determined.{of_parts}
use Rattle.check_limits.proofs.Stands.{found_stands}

-- once it has come to false it stays there
stays_false : (limit : ℕ) (xs : List ℕ) → fold (λ (none : Bool) (x : ℕ). none && nat_le x limit) false xs ≡ false
stays_false limit [] = refl
stays_false limit (x ∷ xs) = stays_false limit xs

-- all are at most the limit exactly if the search finds none
pub none_by_fold : (limit place : ℕ) (xs : List ℕ) → fold (λ (none : Bool) (x : ℕ). none && nat_le x limit) true xs ≡ is_none (lowest_over limit place xs)
unfolding lowest_over
none_by_fold limit place [] = refl
none_by_fold limit place (x ∷ xs) = rw (le_or_lt x limit) (cases (ltb limit x) (none_by_fold limit (suc place) xs))
  where
    le_or_lt : (x limit : ℕ) → nat_le x limit ≡ not (ltb limit x)
    le_or_lt x limit = search rules

    cases : (over : Bool) → fold (λ (none : Bool) (x : ℕ). none && nat_le x limit) true xs ≡ is_none (lowest_over limit (suc place) xs)
        → fold (λ (none : Bool) (x : ℕ). none && nat_le x limit) (not over) xs ≡ is_none (cond over (Some (record { place = place; found = x })) (lowest_over limit (suc place) xs))
    cases true later = stays_false limit xs
    cases false later = later

-- the place that it finds is the first whose number is over the limit
places : (limit first : ℕ) (xs : List ℕ) → option_map (λ (over : Over). over.place) (lowest_over limit first xs) ≡ position_from (λ x. nat_lt limit x) first xs
unfolding lowest_over
places limit first [] = refl
places limit first (x ∷ xs) = cases (ltb limit x) (rw add-one (places limit (suc first) xs))
  where
    cases : (b : Bool) → option_map (λ (over : Over). over.place) (lowest_over limit (suc first) xs) ≡ position_from (λ x. nat_lt limit x) (first + 1) xs
        → option_map (λ (over : Over). over.place) (cond b (Some (record { place = first; found = x })) (lowest_over limit (suc first) xs))
        ≡ cond b (Some first) (position_from (λ x. nat_lt limit x) (first + 1) xs)
    cases true later = refl
    cases false later = later

module _ (limit : ℕ) (xs : List ℕ) where
  its_place : option_map (λ (over : Over). over.place) (lowest_over limit 0 xs) ≡ position (λ x. nat_lt limit x) xs
  its_place = places limit 0 xs ∙ sym (position_from-zero (λ x. nat_lt limit x) xs)

  pub found_by_position : (place : ℕ) → position (λ x. nat_lt limit x) xs ≡ Some place → Some (record { place = place; found = get_or xs place 0 }) ≡ lowest_over limit 0 xs
  found_by_position place e = cases (lowest_over limit 0 xs) refl (its_place ∙ e)
    where
      cases : (v : Option Over) → lowest_over limit 0 xs ≡ v → option_map (λ (over : Over). over.place) v ≡ Some place → Some (record { place = place; found = get_or xs place 0 }) ≡ v
      cases None found e = let z : ◌≡◌ {A = ℕ} 0 1 = cc in absurd (omega arith)
      cases (Some over) found e =
          let p : over.place ≡ place = cc in
          let k : over.place - 0 ≡ place = omega (arith, p) in
          let stands = found_stands limit 0 xs over.place over.found found in
          of_parts (λ place found. Some (record { place = place; found = found })) (sym p) (subst (λ (k : ℕ). get_or xs k 0 ≡ over.found) k stands.its_number)

  pub none_by_position : position (λ x. nat_lt limit x) xs ≡ None → None ≡ lowest_over limit 0 xs
  none_by_position e = cases (lowest_over limit 0 xs) (its_place ∙ e)
    where
      cases : (v : Option Over) → option_map (λ (over : Over). over.place) v ≡ None → None ≡ v
      cases None e = refl
      cases (Some over) e = let z : ◌≡◌ {A = ℕ} 0 1 = cc in absurd (omega arith)
