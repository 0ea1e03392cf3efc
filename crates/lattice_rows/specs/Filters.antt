-- docs/RULES.md, "Lattices" and "Band rows": filters act on the bands of a row in turn, each on the lines of its own band, and the states carry from
-- the first into the second. One definition for both lattices.
use Rattle.std.specs.Prelude.{◌≡◌, List, [], ◌∷◌, ℕ, Float}
use Rattle.row_bands.specs.Bands.{inside, within}
use Rattle.row_bands.specs.declared.Band.{Band}
use Rattle.row_bands.specs.declared.Row.{Row}
use Rattle.lattice_lines.specs.Lattice.{Lattice, at_rest, lines_by, states_by}

-- a filter: its coefficients and its order
pub record Filter : Type 0 where
  pub coefficients : List Float
  pub order : ℕ

abbrev pub filter_with : List Float → ℕ → Filter
filter_with q order = record { coefficients = q; order = order }

-- a spectrum on its way through the filters: its lines, and the states as they are
pub record LinesAndStates : Type 0 where
  pub lines : List Float
  pub states : List Float

-- A filter has one of the bands, and the next filter goes on from its lines and states. A filter that no band is left for has no line to act on.
unfoldable pub bands_run : Lattice → List Band → List Filter → List Float → List Float → LinesAndStates
bands_run lattice [] filters states lines = record { lines = lines; states = states }
bands_run lattice (band ∷ bands) [] states lines = record { lines = lines; states = states }
bands_run lattice (band ∷ bands) (f ∷ filters) states lines =
    bands_run lattice bands filters
    (states_by lattice f.coefficients f.order states (inside band lines))
    (within band (lines_by lattice f.coefficients f.order states) lines)

-- both bands of a row, from some states
abbrev pub row_run : Lattice → Row → List Filter → List Float → List Float → LinesAndStates
row_run lattice row filters states lines = bands_run lattice (row.first ∷ row.second ∷ []) filters states lines

-- the states start at 0
unfoldable pub row_filtered : Lattice → Row → List Filter → List Float → List Float
row_filtered lattice row filters lines = (row_run lattice row filters at_rest lines).lines

-- what one filter that starts from some states leaves of the spectrum that it finds: `left`, and the states after it
pub record FilteredIn (lattice : Lattice) (band : Band) (f : Filter) (start found after left : List Float) : Type 0 where
  pub states : after ≡ states_by lattice f.coefficients f.order start (inside band found)
  pub lines : left ≡ within band (lines_by lattice f.coefficients f.order start) found

-- what the filters of a row that start from some states leave of the spectrum that they find: `left`, and the states after them
pub record FilteredRow (lattice : Lattice) (row : Row) (filters : List Filter) (start found after left : List Float) : Type 0 where
  pub states : after ≡ (row_run lattice row filters start found).states
  pub lines : left ≡ (row_run lattice row filters start found).lines
