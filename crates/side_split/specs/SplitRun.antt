-- docs/RULES.md, "Restart at a line (C-22)": the decoder's run, split at a line. Save and restart are defined by the run that defines the decode call, over what of the row lies below
-- line n and what lies from it on.
use Rattle.std.specs.Prelude.{◌≡◌, List, ℕ, Float, drop}
use Rattle.law_lists.specs.Counted.{counted}
use Rattle.row_bands.specs.declared.Row.{Row}
use Rattle.lattice_lines.specs.Lattice.{at_rest}
use Rattle.lattice_decoder.specs.DecoderLattice.{line_decoded}
use Rattle.lattice_rows.specs.Filters.{row_run}
use Rattle.lattice_rows.specs.Split.{row_below_line, row_from_line}
use Rattle.side_decoded.specs.DecoderFilters.{decoder_filter, row_decoded}

-- the states before line n: from 0, after the counted filters have acted on what of the row lies below it
unfoldable pub states_before : ℕ → Row → ℕ → List ℕ → List ℕ → List Float → List Float
states_before n row filters orders indices lines = (row_run line_decoded (row_below_line n row) (counted decoder_filter filters orders indices) at_rest lines).states

-- the lines from line n on: the counted filters act, from some states, on what of the row lies there
unfoldable pub lines_from : ℕ → Row → ℕ → List ℕ → List ℕ → List Float → List Float → List Float
lines_from n row filters orders indices states lines =
    drop n (row_run line_decoded (row_from_line n row) (counted decoder_filter filters orders indices) states lines).lines

-- what the two runs of `save` leave of a sound frame
pub record SavedRow (n : ℕ) (row : Row) (filters : ℕ) (orders indices : List ℕ) (spectrum left states : List Float) : Type 0 where
  pub output : left ≡ row_decoded row filters orders indices spectrum
  pub before : states ≡ states_before n row filters orders indices spectrum
