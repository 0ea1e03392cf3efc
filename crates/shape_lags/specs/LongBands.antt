-- What the analysis requires of a band and of a row: subbands of eight lines or more, all of them there. The rows of both durations keep it, in a
-- frame that the encode call has checked. No public promise rests on these names.
use Rattle.std.specs.Prelude.{◌≡◌, ℕ, ◌+◌, ◌≤◌}
use Rattle.row_bands.specs.declared.Band.{Band}
use Rattle.row_bands.specs.declared.Row.{Row}

-- each of the three subbands has eight lines or more, and they lie within so many lines
pub record Long (band : Band) (lines : ℕ) : Type 0 where
  pub lowest : band.start + 8 ≤ band.first_cut
  pub middle : band.first_cut + 8 ≤ band.second_cut
  pub highest : band.second_cut + 8 ≤ band.stop
  pub end : band.stop ≤ lines

-- so the first band of a row, and the second where it has one
pub record LongRow (row : Row) (lines : ℕ) : Type 0 where
  pub first : Long row.first lines
  pub second : (row.second.stop ≡ 0 → ⊥) → Long row.second lines
