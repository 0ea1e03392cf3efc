-- Lines taken upwards, in place, with a state carried from line to line. What is done to one line is a parameter: what it becomes, and the state
-- after it.
use Rattle.std.specs.Prelude.{List, [], ◌∷◌}

unfoldable pub lines_through : {A S : Type 0} → (S → A → A) → (S → A → S) → S → List A → List A
lines_through becomes after state [] = []
lines_through becomes after state (line ∷ lines) = becomes state line ∷ lines_through becomes after (after state line) lines

-- the state after them all
unfoldable pub state_through : {A S : Type 0} → (S → A → S) → S → List A → S
state_through after state [] = state
state_through after state (line ∷ lines) = state_through after (after state line) lines
