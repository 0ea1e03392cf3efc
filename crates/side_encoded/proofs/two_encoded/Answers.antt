-- The second filter goes on from the first one's states and lines.
use Rattle.lattice_encoder.specs.EncoderLattice.{line_encoded}
use Rattle.lattice_rows.proofs.Filters.{two_filtered}
use Rattle.side_encoded.specs.SideFilters.{filtered_by}
use Rattle.side_encoded.proofs.two_encoded.Goals as goal

pub returns : goal.returns
unfolding filtered_by
returns c =
    let g = c.args in
    two_filtered line_encoded g.row g.lines.now _ _ _ _ _ _ c.unless_idle-states.ensures c.unless_idle.ensures
