-- docs/RULES.md, "Band rows": the bands of each duration and bandwidth with their cuts, and the lines of a band.
use Rattle.std.specs.Prelude.{List, [], ◌∷◌, ◌++◌, ℕ, zero, suc, ◌+◌, max, get_or, take, drop, Float}
use Rattle.law_lists.specs.Places.{part}
use Rattle.row_durations.specs.declared.Duration.{Duration}
use Rattle.row_durations.specs.declared.Duration.TheVariants.{Ten, SevenPointFive}
use Rattle.row_bands.specs.declared.Band.{Band}
use Rattle.row_bands.specs.declared.Row.{Row}

-- A row for each bandwidth: start, two cuts and stop of the first band, and the same of the second, or zeros where the row has none.
abbrev pub ten_ms_rows : List (List ℕ)
ten_ms_rows =
    (12 ∷ 34 ∷ 57 ∷ 80 ∷ 0 ∷ 0 ∷ 0 ∷ 0 ∷ []) ∷
    (12 ∷ 61 ∷ 110 ∷ 160 ∷ 0 ∷ 0 ∷ 0 ∷ 0 ∷ []) ∷
    (12 ∷ 88 ∷ 164 ∷ 240 ∷ 0 ∷ 0 ∷ 0 ∷ 0 ∷ []) ∷
    (12 ∷ 61 ∷ 110 ∷ 160 ∷ 160 ∷ 213 ∷ 266 ∷ 320 ∷ []) ∷
    (12 ∷ 74 ∷ 137 ∷ 200 ∷ 200 ∷ 266 ∷ 333 ∷ 400 ∷ []) ∷
    []

abbrev pub seven_point_five_ms_rows : List (List ℕ)
seven_point_five_ms_rows =
    (9 ∷ 26 ∷ 43 ∷ 60 ∷ 0 ∷ 0 ∷ 0 ∷ 0 ∷ []) ∷
    (9 ∷ 46 ∷ 83 ∷ 120 ∷ 0 ∷ 0 ∷ 0 ∷ 0 ∷ []) ∷
    (9 ∷ 66 ∷ 123 ∷ 180 ∷ 0 ∷ 0 ∷ 0 ∷ 0 ∷ []) ∷
    (9 ∷ 46 ∷ 82 ∷ 120 ∷ 120 ∷ 159 ∷ 200 ∷ 240 ∷ []) ∷
    (9 ∷ 56 ∷ 103 ∷ 150 ∷ 150 ∷ 200 ∷ 250 ∷ 300 ∷ []) ∷
    []

abbrev pub rows_of : Duration → List (List ℕ)
rows_of Ten = ten_ms_rows
rows_of SevenPointFive = seven_point_five_ms_rows

-- no band: it has no line
abbrev pub no_band : Band
no_band = record { start = 0; first_cut = 0; second_cut = 0; stop = 0 }

-- the band whose numbers begin at a column
abbrev pub band_from : ℕ → List ℕ → Band
band_from column row =
    record { start = get_or row column 0; first_cut = get_or row (column + 1) 0; second_cut = get_or row (column + 2) 0; stop = get_or row (column + 3) 0 }

abbrev pub bands_of : List ℕ → Row
bands_of row = record { first = band_from 0 row; second = band_from 4 row }

-- the bands of a duration and a bandwidth
unfoldable pub row_of : Duration → ℕ → Row
row_of duration bandwidth = bands_of (get_or (rows_of duration) bandwidth [])

abbrev pub band_of : Row → ℕ → Band
band_of row zero = row.first
band_of row (suc zero) = row.second
band_of row (suc (suc filter)) = no_band

-- the row's last stop
abbrev pub last_stop : Row → ℕ
last_stop row = max row.first.stop row.second.stop

-- the lines of a band
abbrev pub inside : Band → List Float → List Float
inside band lines = part band.start band.stop lines

-- the lines with something done to those of a band
abbrev pub within : Band → (List Float → List Float) → List Float → List Float
within band change lines = take band.start lines ++ (change (inside band lines) ++ drop band.stop lines)
