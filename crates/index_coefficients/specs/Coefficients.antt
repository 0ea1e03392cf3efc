-- docs/RULES.md, "Index and coefficient": the table of f32 coefficients, and the coefficient of an index.
-- The table comes from a sweep of the Rust over every f32 from -1 to 1 (oracle/RESULTS.txt). It is written as bit patterns.
use Rattle.std.specs.Prelude.{ℕ, List, [], ◌∷◌, map, from_bits, slice_index_or}
use Rattle.std.specs.Prelude.{Float}
use Rattle.std.specs.Float.{binary32}
use Rattle.law_rounding.specs.Floats.{f0}

abbrev pub coefficient_patterns : List ℕ
coefficient_patterns =
    0xbf7ee86f ∷
    0xbf763a35 ∷
    0xbf65296c ∷
    0xbf4c4adb ∷
    0xbf2c7751 ∷
    0xbf06c442 ∷
    0xbeb8f4ab ∷
    0xbe3c28d5 ∷
    0x00000000 ∷
    0x3e3c28d5 ∷
    0x3eb8f4ab ∷
    0x3f06c442 ∷
    0x3f2c7751 ∷
    0x3f4c4adb ∷
    0x3f65296c ∷
    0x3f763a35 ∷
    0x3f7ee86f ∷
    []

-- seventeen f32 coefficients stand for indices 0..16
abbrev pub coefficients : List Float
coefficients = map (from_bits binary32) coefficient_patterns

-- the coefficient of an index, and 0 past the table
unfoldable pub coefficient_of : ℕ → Float
coefficient_of index = slice_index_or coefficients index f0
