-- docs/RULES.md, "Restart at a line (C-22)": a row cut at a line. Below the line a band has those of its lines that stand there, and from the line on it has the others: each of
-- its four numbers is held on that side, so that a band that lies on the other side whole has no line left.
use Rattle.std.specs.Prelude.{ℕ, ◌<◌, min, max}
use Rattle.row_bands.specs.declared.Band.{Band}
use Rattle.row_bands.specs.declared.Row.{Row}

-- the same done to each number of a band, and to each band of a row
abbrev pub each_number : (ℕ → ℕ) → Band → Band
each_number held band =
    record { start = held band.start; first_cut = held band.first_cut; second_cut = held band.second_cut; stop = held band.stop }

abbrev pub each_band : (Band → Band) → Row → Row
each_band cut row = record { first = cut row.first; second = cut row.second }

-- what of a band, and of a row, lies below line n
abbrev pub band_below_line : ℕ → Band → Band
band_below_line n = each_number (min n)

abbrev pub row_below_line : ℕ → Row → Row
row_below_line n = each_band (band_below_line n)

-- what lies from line n on
abbrev pub band_from_line : ℕ → Band → Band
band_from_line n = each_number (max n)

abbrev pub row_from_line : ℕ → Row → Row
row_from_line n = each_band (band_from_line n)

-- a band that has lines, of which the first stands below line n
abbrev pub Begins : ℕ → Band → Type 0
Begins n band = (band.start < n) × (band.start < band.stop)

-- a cut band, each of whose numbers is one that some rule gives for the band's own
pub record EachNumber (gives : ℕ → ℕ → Type 0) (band cut : Band) : Type 0 where
  pub start : gives band.start cut.start
  pub first_cut : gives band.first_cut cut.first_cut
  pub second_cut : gives band.second_cut cut.second_cut
  pub stop : gives band.stop cut.stop
