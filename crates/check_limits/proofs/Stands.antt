-- What the search for a number over a limit finds stands in the list; and it finds nothing exactly if each number is at most the limit.
use mathlib.Core.Path.{◌≡◌, refl, ap, subst}
use mathlib.Core.Bool.{Bool, true, false, cond}
use mathlib.Core.List.{List, [], ◌∷◌}
use Prim.Native.Nat.{ℕ, zero, suc, ◌+◌, ◌-◌, ◌≤◌, ◌<◌}
use native.Mathlib.Omega.{arith}
use lib.Dec.{ltb}
use borrow.Author.Tests.{le-ltb, ltb-false}
use lib.ListN.{length, get_or}
use Rattle.law_lists.specs.Every.{EachAtMost}
use Rattle.check_limits.specs.LowestOver.{lowest_over}
use Rattle.check_limits.specs.declared.Over.{Over}
use Rattle.std.specs.Prelude.{Some, None}

some_is : {a b : Over} → Some a ≡ Some b → a ≡ b
some_is e = cc

-- the lowest place over a limit is one of the list's, and what was found stands there
pub record Stands (xs : List ℕ) (first place found : ℕ) : Type 0 where
  pub not_before_lem : first ≤ place
  pub before-end : place < first + length xs
  pub its_number : get_or xs (place - first) 0 ≡ found

pub found_stands : (limit first : ℕ) (xs : List ℕ) (place found : ℕ) → lowest_over limit first xs ≡ Some (record { place = place; found = found }) → Stands xs first place found
unfolding lowest_over
found_stands limit first [] place found e = let z : ◌≡◌ {A = ℕ} 0 1 = cc in absurd (omega arith)
found_stands limit first (x ∷ xs) place found e = cases (ltb limit x) (λ further. found_stands limit (suc first) xs place found further) e
  where
    later : Stands xs (suc first) place found → Stands (x ∷ xs) first place found
    later s =
        record {
          not_before_lem = omega (arith, s.not_before_lem);
          before-end = omega (arith, s.before-end);
          its_number =
              let k : suc (place - suc first) ≡ place - first = omega (arith, s.not_before_lem) in
              subst (λ (k : ℕ). get_or (x ∷ xs) k 0 ≡ found) k s.its_number;
        }

    cases : (b : Bool) → (lowest_over limit (suc first) xs ≡ Some (record { place = place; found = found }) → Stands xs (suc first) place found)
        → cond b (Some (record { place = first; found = x })) (lowest_over limit (suc first) xs) ≡ Some (record { place = place; found = found }) → Stands (x ∷ xs) first place found
    cases true further e =
        let same = some_is e in
        let p : first ≡ place = ap (λ (o : Over). o.place) same in
        let f : x ≡ found = ap (λ (o : Over). o.found) same in
        let k : 0 ≡ place - first = omega arith in
        record {
          not_before_lem = omega arith;
          before-end = omega arith;
          its_number = subst (λ (k : ℕ). get_or (x ∷ xs) k 0 ≡ found) k f;
        }
    cases false further e = later (further e)

-- where no number is over the limit, none is after the first, and the first is at most the limit
first_fine : (limit place x : ℕ) (xs : List ℕ) → lowest_over limit place (x ∷ xs) ≡ None → (x ≤ limit) × (lowest_over limit (suc place) xs ≡ None)
unfolding lowest_over
first_fine limit place x xs e = cases (ltb limit x) refl e
  where
    cases : (b : Bool) → ltb limit x ≡ b → cond b (Some (record { place = place; found = x })) (lowest_over limit (suc place) xs) ≡ None → (x ≤ limit) × (lowest_over limit (suc place) xs ≡ None)
    cases true eb e = let z : ◌≡◌ {A = ℕ} 0 1 = cc in absurd (omega arith)
    cases false eb e = (ltb-false limit x eb, e)

pub none_further : (limit place x : ℕ) (xs : List ℕ) → lowest_over limit place (x ∷ xs) ≡ None → lowest_over limit (suc place) xs ≡ None
none_further limit place x xs e = (first_fine limit place x xs e).1

-- each is at most the limit
pub none_over : (limit place : ℕ) (xs : List ℕ) → lowest_over limit place xs ≡ None → EachAtMost limit xs
none_over limit place [] e i = omega arith
none_over limit place (x ∷ xs) e zero = (first_fine limit place x xs e).0
none_over limit place (x ∷ xs) e (suc i) = none_over limit (suc place) xs (none_further limit place x xs e) i

-- and if each is, none is found
pub none_found : (limit place : ℕ) (xs : List ℕ) → EachAtMost limit xs → lowest_over limit place xs ≡ None
unfolding lowest_over
none_found limit place [] fine = refl
none_found limit place (x ∷ xs) fine = rw (le-ltb limit x (fine 0)) (none_found limit (suc place) xs (λ i. fine (suc i)))
