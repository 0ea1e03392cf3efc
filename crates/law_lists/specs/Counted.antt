-- What the counted filters of a frame are made of: each has one of the orders and the next eight of the indices. And the total of a list.
use Rattle.std.specs.Prelude.{List, [], ◌∷◌, ℕ, zero, suc, ◌+◌, get_or, take, drop}

unfoldable pub counted : {A : Type 0} → (ℕ → List ℕ → A) → ℕ → List ℕ → List ℕ → List A
counted made zero orders indices = []
counted made (suc filters) orders indices = made (get_or orders 0 0) (take 8 indices) ∷ counted made filters (drop 1 orders) (drop 8 indices)

unfoldable pub total : List ℕ → ℕ
total [] = 0
total (x ∷ xs) = x + total xs
