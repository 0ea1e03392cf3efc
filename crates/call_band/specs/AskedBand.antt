-- docs/RULES.md, "Band rows": the band that a caller asks for, as that part of its own spectrum.
use Rattle.std.specs.Prelude.{◌≡◌, List, ℕ, ◌+◌, ◌-◌, ◌*◌, Float, length}
use Rattle.check_verdicts.specs.Verdicts.{unless_refused}
use Rattle.row_bands.specs.Bands.{band_of, no_band, inside}
use Rattle.row_bands.specs.declared.Band.{Band}
use Rattle.check_frame.specs.Frames.{frame_of}

-- the band that a caller asks for: empty if the row lacks it, or if the frame fails one of checks 1 to 3
abbrev pub asked_band : ℕ → ℕ → ℕ → ℕ → Band
asked_band duration bandwidth filter lines = unless_refused (frame_of duration bandwidth lines) (λ row. band_of row filter) no_band

-- how many lines a band has
abbrev pub lines_of : Band → ℕ
lines_of band = band.stop - band.start

-- where a line stands of a list that begins at a pointer, which is a block of memory and an offset in bytes: a line has four
abbrev pub line_at : ℕ × ℕ → ℕ → ℕ × ℕ
line_at list line = (list.0, list.1 + line * 4)

-- What is promised of a band that is handed back as a part of the caller's own spectrum: its lines, where it begins, and how long it is. `found` are
-- the lines of the spectrum, which begin at `list`.
pub record PartOf (band : Band) (list : ℕ × ℕ) (found : List Float) (place : ℕ × ℕ) (part : List Float) : Type 0 where
  pub lines : part ≡ inside band found
  pub begins : place ≡ line_at list band.start
  pub count : length part ≡ lines_of band
