-- Nothing is done at order 0 or in a band of no lines.
use Rattle.lattice_decoder.specs.DecoderLattice.{line_decoded, decoder_idle}
use Rattle.lattice_rows.proofs.Filters.{idle_filter, no_lines}
use Rattle.side_decoded.specs.DecoderFilters.{decoder_filter}
use Rattle.side_decoded.proofs.filter_decoded.Goals as goal

pub returns-then-order-eq0 : goal.returns-then-order-eq0
returns-then-order-eq0 c =
    let g = c.args in
    idle_filter line_decoded decoder_idle g.band (decoder_filter g.order g.indices.now) c.if-order-eq0.true g.states g.lines.now c.requires.fits.order

pub returns-then-band : goal.returns-then-band
returns-then-band c =
    let g = c.args in
    no_lines line_decoded g.band c.if-band.true (decoder_filter g.order g.indices.now) g.states g.lines.now
