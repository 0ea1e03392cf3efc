-- The decoder's filters by their orders and indices, and what they make of a spectrum.
use Rattle.std.specs.Prelude.{List, map, ℕ, Float}
use Rattle.law_lists.specs.Counted.{counted}
use Rattle.index_coefficients.specs.Coefficients.{coefficient_of}
use Rattle.row_bands.specs.declared.Row.{Row}
use Rattle.lattice_decoder.specs.DecoderLattice.{line_decoded}
use Rattle.lattice_rows.specs.Filters.{Filter, filter_with, row_filtered}

-- a filter of the decoder, by its order and eight indices: the same seventeen coefficients stand for them as in the encoder
abbrev pub decoder_filter : ℕ → List ℕ → Filter
decoder_filter order indices = filter_with (map coefficient_of indices) order

-- the counted filters act on the row's bands in turn
unfoldable pub row_decoded : Row → ℕ → List ℕ → List ℕ → List Float → List Float
row_decoded row filters orders indices lines = row_filtered line_decoded row (counted decoder_filter filters orders indices) lines
