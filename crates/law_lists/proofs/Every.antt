-- Laws of tests over lists, of a list's default, which is not read inside the list, and of a limit on every number of a list.
use mathlib.Core.Path.{◌≡◌, refl, ap}
use mathlib.Core.Bool.{Bool, true, false, ◌&&◌}
use mathlib.Core.List.{List, [], ◌∷◌, ◌++◌}
use Prim.Native.Nat.{ℕ, zero, suc, ◌+◌, ◌≤◌, ◌<◌}
use native.Mathlib.Decide.{dec_lt}
use native.Mathlib.Nat.{le_of_suc-le-suc, not-suc-le-zero}
use native.Mathlib.Omega.{arith}
use lib.ListN.{length, get_or, take, drop, replicate, length-take, get_or-eq_default}
use lib.Seq.{get_or-take, get_or-drop}
use Rattle.std.specs.List.{list_all}
use Rattle.law_lists.specs.Every.{every, EachAtMost}

pub and_left : (a b : Bool) → a && b ≡ true → a ≡ true
and_left true b e = refl
and_left false b e = e

pub and_right : (a b : Bool) → a && b ≡ true → b ≡ true
and_right true b e = e
and_right false b e = cc

-- inside a list the default is not read
pub any_default : {A : Type 0} (xs : List A) (d e : A) (i : ℕ) → i < length xs → get_or xs i d ≡ get_or xs i e
any_default [] d e i h = absurd (not-suc-le-zero h)
any_default (x ∷ xs) d e zero h = refl
any_default (x ∷ xs) d e (suc i) h = any_default xs d e i (le_of_suc-le-suc h)

-- what every member of a list passes, and the default too, is passed at every place
pub every_at : {A : Type 0} (test : A → Bool) (xs : List A) → every test xs ≡ true → (d : A) → test d ≡ true → (i : ℕ) → test (get_or xs i d) ≡ true
every_at test [] all d e i = e
every_at test (x ∷ xs) all d e zero = and_left (test x) (every test xs) all
every_at test (x ∷ xs) all d e (suc i) = every_at test xs (and_right (test x) (every test xs) all) d e i

-- it is the library's test of all members
pub every_is_all : {A : Type 0} (test : A → Bool) (xs : List A) → list_all test xs ≡ every test xs
every_is_all test [] = refl
every_is_all test (x ∷ xs) = ap (λ (rest : Bool). test x && rest) (every_is_all test xs)

-- ---- a limit on every number of a list

module _ (limit : ℕ) where
  pub part_at_most : (n m : ℕ) (xs : List ℕ) → EachAtMost limit xs → EachAtMost limit (take n (drop m xs))
  part_at_most n m xs fine place = elim (dec_lt place n) [
    | yes below ↦ rw (get_or-take n (drop m xs) place 0 below, get_or-drop m xs place 0) (fine (m + place))
    | no beyond ↦
        let past : length (take n (drop m xs)) ≤ place = omega (arith, length-take n (drop m xs)) in
        rw (get_or-eq_default (take n (drop m xs)) 0 past) (omega arith)
  ]

  pub both_at_most : (xs ys : List ℕ) → EachAtMost limit xs → EachAtMost limit ys → EachAtMost limit (xs ++ ys)
  both_at_most [] ys p q place = q place
  both_at_most (x ∷ xs) ys p q zero = p 0
  both_at_most (x ∷ xs) ys p q (suc place) = both_at_most xs ys (λ i. p (suc i)) q place

  pub zeros_at_most : (n : ℕ) → EachAtMost limit (replicate n 0)
  zeros_at_most zero place = omega arith
  zeros_at_most (suc n) zero = omega arith
  zeros_at_most (suc n) (suc place) = zeros_at_most n place
