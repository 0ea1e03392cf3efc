-- Laws of a list that is cut into portions: joined they are the list again, they are no more than are needed, and some where
-- there are members.
use mathlib.Core.Path.{◌≡◌, refl, sym, ◌∙◌, ap}
use mathlib.Core.List.{List, [], ◌∷◌, ◌++◌}
use Prim.Native.Nat.{ℕ, zero, suc, ◌*◌, ◌≤◌, ◌<◌}
use native.Mathlib.Nat.{mul-suc}
use native.Mathlib.Decide.{dec_lt}
use native.Mathlib.Omega.{arith}
use lib.ListN.{length, take, drop, length-drop, take-append-drop}
use Rattle.law_lists.specs.Portions.{portions}
use Rattle.law_lists.proofs.Portions.{portions_first, portions_none}

-- lists one after the other
abbrev pub joined : {A : Type 0} → List (List A) → List A
joined [] = []
joined (xs ∷ rest) = xs ++ joined rest

pub no_members : {A : Type 0} (xs : List A) → length xs ≡ 0 → xs ≡ []
no_members [] h = refl
no_members (x ∷ xs) h = absurd (omega arith)

module _ {A : Type 0} (size : ℕ) (some : 0 < size) where
  none_cut : (xs : List A) → length xs ≡ 0 → portions size xs ≡ []
  none_cut xs h = ap (portions size) (no_members xs h) ∙ portions_none size

  -- by the members that are left
  joined_in : (many : ℕ) (xs : List A) → length xs ≤ many → joined (portions size xs) ≡ xs
  joined_in zero xs h = ap joined (none_cut xs (omega arith)) ∙ sym (no_members xs (omega arith))
  joined_in (suc many) xs h = elim (dec_lt 0 (length xs)) [
    | yes there ↦
        ap joined (portions_first size some xs there)
        ∙ ap (λ (ys : List A). take size xs ++ ys) (joined_in many (drop size xs) (omega (arith, length-drop size xs)))
        ∙ take-append-drop size xs
    | no none ↦ ap joined (none_cut xs (omega arith)) ∙ sym (no_members xs (omega arith))
  ]

  pub portions_joined : (xs : List A) → joined (portions size xs) ≡ xs
  portions_joined xs = joined_in (length xs) xs (omega arith)

  -- so many members are at most so many portions
  pub portions_at_most : (many : ℕ) (xs : List A) → length xs ≤ size * many → length (portions size xs) ≤ many
  portions_at_most zero xs h = omega (arith, ap length (none_cut xs (omega arith)))
  portions_at_most (suc many) xs h = elim (dec_lt 0 (length xs)) [
    | yes there ↦
        let rest : length (drop size xs) ≤ size * many = omega (arith, length-drop size xs, mul-suc size many) in
        omega (arith, ap length (portions_first size some xs there), portions_at_most many (drop size xs) rest)
    | no none ↦ omega (arith, ap length (none_cut xs (omega arith)))
  ]

  -- what is cut into some portions has some members
  pub some_members : (xs : List A) → 0 < length (portions size xs) → 0 < length xs
  some_members xs h = elim (dec_lt 0 (length xs)) [
    | yes there ↦ there
    | no none ↦ absurd (omega (arith, ap length (none_cut xs (omega arith))))
  ]
