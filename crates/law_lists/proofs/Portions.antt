-- Laws of a list cut into portions: the first and those of the rest, and how a loop cuts them off.
use mathlib.Core.Path.{◌≡◌, refl, sym, ◌∙◌, ap}
use mathlib.Core.List.{List, [], ◌∷◌, ◌++◌}
use Prim.Native.Nat.{ℕ, zero, suc, ◌+◌, ◌-◌, ◌≤◌, ◌<◌, min}
use native.Mathlib.Decide.{dec_lt}
use native.Mathlib.Omega.{arith}
use lib.ListN.{length, take, drop, length-append, length-drop, drop_of_length-le}
use lib.Seq.{take_all, take_at, drop_at, drop-drop}
use Rattle.law_lists.specs.Portions.{portions_in, portions}

module _ {A : Type 0} (size : ℕ) (some : 0 < size) where
  -- more than enough is enough
  enough : (m n : ℕ) (xs : List A) → length xs ≤ m → length xs ≤ n → portions_in m size xs ≡ portions_in n size xs
  unfolding portions_in
  enough zero zero xs h k = refl
  enough zero (suc n) [] h k = refl
  enough zero (suc n) (x ∷ xs) h k = absurd (omega arith)
  enough (suc m) zero [] h k = refl
  enough (suc m) zero (x ∷ xs) h k = absurd (omega arith)
  enough (suc m) (suc n) [] h k = refl
  enough (suc m) (suc n) (x ∷ xs) h k =
      let fewer : length (drop size (x ∷ xs)) ≡ suc (length xs) - size = length-drop size (x ∷ xs) in
      ap (λ (ps : List (List A)). take size (x ∷ xs) ∷ ps) (enough m n (drop size (x ∷ xs)) (omega arith) (omega arith))

  pub portions_first : (xs : List A) → 0 < length xs → portions size xs ≡ take size xs ∷ portions size (drop size xs)
  unfolding portions portions_in
  portions_first [] h = absurd (omega arith)
  portions_first (x ∷ xs) h =
      let fewer : length (drop size (x ∷ xs)) ≡ suc (length xs) - size = length-drop size (x ∷ xs) in
      ap (λ (ps : List (List A)). take size (x ∷ xs) ∷ ps)
      (enough (length xs) (length (drop size (x ∷ xs))) (drop size (x ∷ xs)) (omega arith) (omega arith))

  -- a portion of the full size in front
  pub portions_after : (p xs : List A) → length p ≡ size → portions size (p ++ xs) ≡ p ∷ portions size xs
  portions_after p xs e =
      portions_first (p ++ xs) (simp length-append (omega arith))
      ∙ ap (λ (q : List A). q ∷ portions size (drop size (p ++ xs))) (take_at p xs size e)
      ∙ ap (λ (ys : List A). p ∷ portions size ys) (drop_at p xs size e)

  -- from a place on, as a loop cuts them off: the next one, also where it is the last and smaller, and those after it
  module _ (from end : ℕ) (xs : List A) (here : from < length xs) (ends : end ≡ min (from + size) (length xs)) where
    next_portion : take size (drop from xs) ≡ take (end - from) (drop from xs)
    next_portion = elim (dec_lt (from + size) (length xs)) [
      | yes below ↦ let e : size ≡ end - from = omega arith in rw (sym e)
      | no beyond ↦
          take_all size (drop from xs) (omega (arith, length-drop from xs)) ∙ sym (take_all (end - from) (drop from xs) (omega (arith, length-drop from xs)))
    ]

    after_next : drop size (drop from xs) ≡ drop end xs
    after_next = drop-drop size from xs ∙ elim (dec_lt (from + size) (length xs)) [
      | yes below ↦ let e : from + size ≡ end = omega arith in rw e
      | no beyond ↦
          let all : length xs ≤ from + size = omega arith in
          let past : length xs ≤ end = omega arith in
          drop_of_length-le xs all ∙ sym (drop_of_length-le xs past)
    ]

    pub portions_at : portions size (drop from xs) ≡ take (end - from) (drop from xs) ∷ portions size (drop end xs)
    portions_at =
        portions_first (drop from xs) (omega (arith, length-drop from xs))
        ∙ ap (λ (p : List A). p ∷ portions size (drop size (drop from xs))) next_portion
        ∙ ap (λ (ys : List A). take (end - from) (drop from xs) ∷ portions size ys) after_next

pub portions_none : {A : Type 0} (size : ℕ) → portions {A = A} size [] ≡ []
unfolding portions portions_in
portions_none size = refl
