-- The rules of the band rows, one test that the checker computes over all rows of both durations.
use Rattle.std.specs.Prelude.{◌≡◌, refl, Bool, true, ◌&&◌, ◌||◌, List, ℕ, eqb, leb, ltb}
use Rattle.law_lists.specs.Every.{every}
use Rattle.row_durations.specs.Durations.{numbers_of, DurationNumbers}
use Rattle.row_bands.specs.Bands.{ten_ms_rows, seven_point_five_ms_rows, band_from}
use Rattle.row_durations.specs.declared.Duration.TheVariants.{Ten, SevenPointFive}
use Rattle.row_bands.specs.declared.Band.{Band}

-- both cuts are inside the band, in order
unfoldable pub cut : Band → Bool
cut b = ltb b.start b.first_cut && ltb b.first_cut b.second_cut && ltb b.second_cut b.stop

-- no second band, or one that adjoins the first
unfoldable pub adjoins : Band → Band → Bool
unfolding cut
adjoins a b = eqb b.stop 0 && eqb b.start 0 || eqb b.start a.stop && cut b

-- the first start is the duration's first line, the last stop is at most its longest, cuts are inside their band, bands adjoin, so that starts rise
unfoldable pub row_rule : DurationNumbers → List ℕ → Bool
unfolding cut adjoins
row_rule d row =
    eqb (band_from 0 row).start d.first_line && cut (band_from 0 row) && adjoins (band_from 0 row) (band_from 4 row)
    && leb (band_from 0 row).stop d.longest && leb (band_from 4 row).stop d.longest

pub rows_keep_their_rules : every (row_rule (numbers_of Ten)) ten_ms_rows && every (row_rule (numbers_of SevenPointFive)) seven_point_five_ms_rows ≡ true
unfolding row_rule
rows_keep_their_rules = refl
