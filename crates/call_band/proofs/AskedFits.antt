-- The band that a caller asks for lies within the lines of the spectrum.
use mathlib.Core.Path.{◌≡◌, refl}
use Prim.Native.Nat.{ℕ, zero, suc}
use native.Mathlib.Omega.{arith}
use Rattle.check_verdicts.specs.Verdicts.{Verdict, accepted, refused, unless_refused}
use Rattle.row_bands.specs.Bands.{band_of, no_band}
use Rattle.row_bands.specs.declared.Row.{Row}
use Rattle.row_bands.proofs.Bands.{Fits}
use Rattle.check_frame.specs.Frames.{frame_of}
use Rattle.check_frame.proofs.Frames.{sound_row}
use Rattle.call_band.specs.AskedBand.{asked_band}

none_fits : (lines : ℕ) → Fits no_band lines
none_fits lines = record { order = omega arith; end = omega arith }

pub asked_fits : (duration bandwidth filter lines : ℕ) → Fits (asked_band duration bandwidth filter lines) lines
asked_fits duration bandwidth filter lines = cases (frame_of duration bandwidth lines) refl filter
  where
    cases : (v : Verdict Row) → frame_of duration bandwidth lines ≡ v → (filter : ℕ) → Fits (unless_refused v (λ row. band_of row filter) no_band) lines
    cases (accepted row) e zero = (sound_row duration bandwidth lines row e).first_fits
    cases (accepted row) e (suc zero) = (sound_row duration bandwidth lines row e).second_fits
    cases (accepted row) e (suc (suc filter)) = none_fits lines
    cases (refused fault) e filter = none_fits lines
