-- A filter of order 0 leaves the spectrum and the states as they are.
use Rattle.lattice_encoder.specs.EncoderLattice.{line_encoded, encoder_idle}
use Rattle.lattice_rows.proofs.Filters.{idle_filter}
use Rattle.side_encoded.specs.SideFilters.{filter_in}
use Rattle.side_encoded.proofs.unless_idle.Goals as goal

pub returns-then-filter-eq0 : goal.returns-then-filter-eq0
returns-then-filter-eq0 c =
    let g = c.args in
    idle_filter line_encoded encoder_idle g.band (filter_in g.filter) c.if-filter-eq0.true g.states g.lines.now c.requires.fits.order
