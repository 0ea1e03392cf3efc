-- Laws of the part of a list from a start to a stop: it is the same where both are cut at the list's end, it is what is left of the members before
-- the stop, and it is its two parts at any place between. And what is left of zeros.
use mathlib.Core.Path.{◌≡◌, sym, ◌∙◌, ap}
use mathlib.Core.List.{List, [], ◌∷◌, ◌++◌}
use Prim.Native.Nat.{ℕ, zero, suc, ◌+◌, ◌-◌, ◌≤◌, ◌<◌, min}
use native.Mathlib.Decide.{dec_lt}
use native.Mathlib.Omega.{arith}
use lib.ListN.{length, take, drop, replicate, length-drop, drop_of_length-le}
use lib.Seq.{take_all, take-nil, take-take, take-add, drop-drop}
use Rattle.law_lists.specs.Places.{part}

-- what is left of zeros are zeros
pub drop_zeros : (n m : ℕ) → drop {A = ℕ} n (replicate m 0) ≡ replicate (m - n) 0
drop_zeros zero m = let e : m - 0 ≡ m = omega arith in rw e
drop_zeros (suc n) zero = let e : 0 - suc n ≡ 0 = omega arith in rw e
drop_zeros (suc n) (suc m) = let e : suc m - suc n ≡ m - n = omega arith in rw e (drop_zeros n m)

-- beyond a list's length no more of it is taken
take_more : {A : Type 0} (m n : ℕ) (xs : List A) → length xs ≤ m → length xs ≤ n → take m xs ≡ take n xs
take_more m n xs h k = take_all m xs h ∙ sym (take_all n xs k)

none_taken : {A : Type 0} (n : ℕ) (xs : List A) → n ≡ 0 → take n xs ≡ []
none_taken n xs e = rw e

module _ {A : Type 0} (start stop : ℕ) (xs : List A) where
  abbrev end : ℕ
  end = min stop (length xs)

  begins_inside : start < end → part start end xs ≡ part start stop xs
  begins_inside h = elim (dec_lt stop (length xs)) [
    | yes below ↦ let e : min stop (length xs) ≡ stop = omega arith in rw e
    | no beyond ↦ take_more (end - start) (stop - start) (drop start xs) (omega (arith, length-drop start xs)) (omega (arith, length-drop start xs))
  ]

  begins_beyond : end ≤ start → [] ≡ part start stop xs
  begins_beyond h = elim (dec_lt start stop) [
    | yes before ↦
        let past : length xs ≤ start = omega arith in
        sym (ap (take (stop - start)) (drop_of_length-le xs past) ∙ take-nil (stop - start))
    | no after ↦ sym (none_taken (stop - start) (drop start xs) (omega arith))
  ]

  pub part_cut : part (min start end) end xs ≡ part start stop xs
  part_cut = elim (dec_lt start end) [
    | yes inside ↦ let e : min start (min stop (length xs)) ≡ start = omega arith in rw e (begins_inside inside)
    | no beyond ↦
        let e : min start (min stop (length xs)) ≡ min stop (length xs) = omega arith in
        rw e (none_taken (end - end) (drop end xs) (omega arith) ∙ begins_beyond (omega arith))
  ]

-- what is left of the first members
pub drop_take : {A : Type 0} (m n : ℕ) (xs : List A) → drop m (take n xs) ≡ take (n - m) (drop m xs)
drop_take zero n xs = let e : n - 0 ≡ n = omega arith in rw e
drop_take (suc m) zero xs = let e : 0 - suc m ≡ 0 = omega arith in rw e
drop_take (suc m) (suc n) [] = sym (take-nil (suc n - suc m))
drop_take (suc m) (suc n) (x ∷ xs) = let e : suc n - suc m ≡ n - m = omega arith in rw e (drop_take m n xs)

-- so a part is that of any first members that reach to its stop
pub part_of_first : {A : Type 0} (start stop n : ℕ) (xs : List A) → stop ≤ n → part start stop (take n xs) ≡ part start stop xs
part_of_first start stop n xs h = sym (drop_take start stop (take n xs)) ∙ ap (drop start) (take-take stop n xs h) ∙ drop_take start stop xs

-- and a part of what is left from a place on, that many places earlier
pub part_of_rest : {A : Type 0} (n start stop : ℕ) (xs : List A) → n ≤ start → part (start - n) (stop - n) (drop n xs) ≡ part start stop xs
part_of_rest {A} n start stop xs h =
    let place : n + (start - n) ≡ start = omega arith in
    let many : stop - n - (start - n) ≡ stop - start = omega arith in
    rw many (ap (take (stop - start)) (drop-drop (start - n) n xs ∙ ap (λ (k : ℕ). drop k xs) place))

-- cut between start and stop
pub part_split : {A : Type 0} (start n stop : ℕ) (xs : List A) → start ≤ n → n ≤ stop → part start stop xs ≡ part start n xs ++ part n stop xs
part_split {A} start n stop xs h k =
    let many : stop - start ≡ n - start + (stop - n) = omega arith in
    let place : start + (n - start) ≡ n = omega arith in
    ap (λ (m : ℕ). take m (drop start xs)) many
    ∙ take-add (n - start) (stop - n) (drop start xs)
    ∙ ap (λ (l : List A). take (n - start) (drop start xs) ++ take (stop - n) l) (drop-drop (n - start) start xs ∙ ap (λ (m : ℕ). drop m xs) place)
