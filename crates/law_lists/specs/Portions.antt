-- A list cut into portions of a size. Only the last may be smaller, and none is empty.
use Rattle.std.specs.Prelude.{List, [], ◌∷◌, ℕ, zero, suc, length, take, drop}

-- so many portions are enough
unfoldable pub portions_in : {A : Type 0} → ℕ → ℕ → List A → List (List A)
portions_in zero size xs = []
portions_in (suc many) size [] = []
portions_in (suc many) size (x ∷ xs) = take size (x ∷ xs) ∷ portions_in many size (drop size (x ∷ xs))

-- as many as there are members
unfoldable pub portions : {A : Type 0} → ℕ → List A → List (List A)
unfolding portions_in
portions size xs = portions_in (length xs) size xs
