-- A test that is computed over a whole list, as the rules of a table are; and a limit on every number of a list.
use Rattle.std.specs.Prelude.{Bool, true, ◌&&◌, List, [], ◌∷◌, ℕ, ◌≤◌, get_or}

-- a test that every member of a list passes
abbrev pub every : {A : Type 0} → (A → Bool) → List A → Bool
every test [] = true
every test (x ∷ xs) = test x && every test xs

-- no number of a list is over a limit; a place past the list's end reads 0
abbrev pub EachAtMost : ℕ → List ℕ → Type 0
EachAtMost limit xs = (place : ℕ) → get_or xs place 0 ≤ limit
