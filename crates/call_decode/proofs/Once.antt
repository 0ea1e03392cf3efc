-- docs/RULES.md, "Lattices": on a row of one band a count of 2 works like a count of 1, for the whole decode call.
use mathlib.Core.Path.{◌≡◌, refl}
use mathlib.Core.List.{List}
use Prim.Native.Nat.{ℕ}
use lib.Ieee.{Float}
use lib.ListN.{length}
use Rattle.check_side.specs.Sides.{side_checks}
use Rattle.row_durations.specs.Durations.{duration_of}
use Rattle.row_bands.specs.Bands.{row_of, no_band}
use Rattle.side_decoded.proofs.Once.{twice_is_once}
use Rattle.call_decode.specs.Decoder.{decode_checks, spectrum_decoded}

-- the two calls pass the same checks
same_checks : (duration bandwidth : ℕ) (orders indices : List ℕ) (lines : ℕ)
    → decode_checks duration bandwidth 2 orders indices lines ≡ decode_checks duration bandwidth 1 orders indices lines
unfolding decode_checks side_checks
same_checks duration bandwidth orders indices lines = refl

pub acts_once : (duration bandwidth : ℕ) (orders indices : List ℕ) (lines : List Float) → (row_of (duration_of duration) bandwidth).second ≡ no_band
    → spectrum_decoded duration bandwidth 2 orders indices lines ≡ spectrum_decoded duration bandwidth 1 orders indices lines
unfolding spectrum_decoded
acts_once duration bandwidth orders indices lines one-band =
    rw (same_checks duration bandwidth orders indices (length lines), twice_is_once (row_of (duration_of duration) bandwidth) orders indices lines one-band)
