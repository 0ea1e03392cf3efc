-- docs/RULES.md, "Lattices": on a row of one band a count of 2 works like a count of 1, whatever the second filter's order and
-- indices.
use mathlib.Core.Path.{◌≡◌, sym, ◌∙◌}
use mathlib.Core.List.{List}
use Prim.Native.Nat.{ℕ}
use lib.Ieee.{Float}
use Rattle.row_bands.specs.Bands.{no_band}
use Rattle.row_bands.specs.declared.Row.{Row}
use Rattle.lattice_lines.specs.Lattice.{at_rest}
use Rattle.lattice_decoder.specs.DecoderLattice.{line_decoded}
use Rattle.lattice_rows.proofs.Filters.{acting, no_lines}
use Rattle.side_decoded.specs.DecoderFilters.{row_decoded}
use Rattle.side_decoded.proofs.CountedFilters.{first, second, one_counted, two_counted, row_is_decoded}

pub twice_is_once : (row : Row) (orders indices : List ℕ) (lines : List Float) → row.second ≡ no_band
    → row_decoded row 2 orders indices lines ≡ row_decoded row 1 orders indices lines
twice_is_once row orders indices lines none =
    let f = first row orders indices lines in
    let g = second row orders indices lines in
    let once = acting line_decoded row.first f at_rest lines in
    let again = no_lines line_decoded row.second (rw none) g _ _ in
    sym (row_is_decoded row orders indices lines 2 _ _ (two_counted row orders indices lines at_rest _ _ _ _ once again))
    ∙ row_is_decoded row orders indices lines 1 _ _ (one_counted row orders indices lines at_rest _ _ once)
