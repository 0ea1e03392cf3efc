-- docs/RULES.md, "Lattices", what the two have in common. A lattice takes a filter's coefficients and order, eight states and a line to what the line
-- becomes and the states after it. A filter takes the lines of its band through it, upwards, with the states carried from line to line.
use Rattle.std.specs.Prelude.{◌≡◌, List, ℕ, replicate, Float}
use Rattle.law_lists.specs.Lines.{lines_through, state_through}
use Rattle.law_rounding.specs.Floats.{f0}
use Rattle.lattice_lines.specs.declared.Passed.{Passed}

abbrev pub Lattice : Type 0
Lattice = List Float → ℕ → List Float → Float → Passed

-- eight state numbers start at 0
abbrev pub at_rest : List Float
at_rest = replicate 8 f0

-- the lines of a band, and the states after them
unfoldable pub lines_by : Lattice → List Float → ℕ → List Float → List Float → List Float
lines_by lattice q order = lines_through (λ states line. (lattice q order states line).t) (λ states line. (lattice q order states line).states)

unfoldable pub states_by : Lattice → List Float → ℕ → List Float → List Float → List Float
states_by lattice q order = state_through (λ states line. (lattice q order states line).states)

-- a filter of order 0 leaves line and states alone: each lattice keeps this law
abbrev pub Idle : Lattice → Type 0
Idle lattice = (q states : List Float) (line : Float) → lattice q 0 states line ≡ record { t = line; states = states }

-- what a filter that starts from some states leaves of the lines that it finds: `left`, and the states after them
pub record Filtered (lattice : Lattice) (q : List Float) (order : ℕ) (start found after left : List Float) : Type 0 where
  pub states : after ≡ states_by lattice q order start found
  pub lines : left ≡ lines_by lattice q order start found
