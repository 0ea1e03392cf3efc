-- Index 0 decoded, computed by the checker from the definitions: the input of docs/DIFFERENCES.md that shows the decoder and D apart. 80 lines of 1
-- at 10 ms and bandwidth 0, one filter of order 1 whose index is 0. D leaves every line 1. Shown are lines 11 to 15, around the band's start at 12,
-- and line 79, its last. They are those that D leaves with index 67, which is the same coefficient to it (oracle/RESULTS.txt).
use Rattle.std.specs.Prelude.{◌≡◌, refl, List, [], ◌∷◌, ◌++◌, map, ℕ, take, drop, replicate, Float}
use Rattle.std.specs.Float.{binary32}
use Rattle.std.specs.Float.Ieee.{of_bits, to_bits, add, sub, mul}
use Rattle.law_lists.specs.Counted.{counted}
use Rattle.law_lists.specs.Lines.{lines_through, state_through}
use Rattle.law_rounding.specs.Floats.{f1}
use Rattle.check_limits.specs.LowestOver.{lowest_over}
use Rattle.check_side.specs.Sides.{side_checks}
use Rattle.index_coefficients.specs.Coefficients.{coefficient_of}
use Rattle.row_bands.specs.Bands.{row_of}
use Rattle.check_frame.specs.Frames.{frame_checks}
use Rattle.lattice_lines.specs.Lattice.{lines_by, states_by}
use Rattle.lattice_decoder.specs.DecoderLattice.{stage_down, stages_below, line_decoded}
use Rattle.lattice_rows.specs.Filters.{bands_run, row_filtered}
use Rattle.side_decoded.specs.DecoderFilters.{row_decoded}
use Rattle.call_decode.specs.Decoder.{decode_checks, spectrum_decoded}

abbrev after : List Float
after = spectrum_decoded 0 0 1 (1 ∷ 0 ∷ []) (0 ∷ replicate 15 8) (replicate 80 f1)

abbrev shown : List ℕ
shown = map (to_bits binary32) (take 5 (drop 11 after) ++ drop 79 after)

pub index_0_decoded : shown ≡ 0x3f800000 ∷ 0x3f800000 ∷ 0x3fff7438 ∷ 0x403f2ea0 ∷ 0x407e5dd8 ∷ 0x426c89b5 ∷ []
unfolding of_bits to_bits add sub mul coefficient_of lowest_over side_checks row_of frame_checks counted lines_through state_through stage_down stages_below line_decoded lines_by states_by bands_run row_filtered row_decoded decode_checks spectrum_decoded
index_0_decoded = refl
