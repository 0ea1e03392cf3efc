-- What the decode call leaves of a coded frame, by what its checks come to: its promise, kept by a call that they refuse and by one that they pass.
use mathlib.Core.Path.{◌≡◌, sym, ◌∙◌, ap}
use mathlib.Core.List.{List}
use Prim.Native.Nat.{ℕ}
use lib.Ieee.{Float}
use lib.ListN.{length}
use Rattle.std.specs.Prelude.{Result, Ok, Err}
use Rattle.check_verdicts.specs.Verdicts.{Verdict, refused, no_fault}
use Rattle.check_refusals.specs.Refusals.{says}
use Rattle.check_refusals.specs.declared.Refusal.{Refusal}
use Rattle.row_durations.specs.Durations.{duration_of}
use Rattle.row_bands.specs.Bands.{row_of}
use Rattle.row_bands.specs.declared.Row.{Row}
use Rattle.check_coded.specs.CodedFrames.{CodedFrame, checks_of}
use Rattle.check_coded.proofs.CodedFrames.{PassedFrame, left_alone, written}
use Rattle.side_decoded.specs.DecoderFilters.{row_decoded}
use Rattle.call_decode.specs.Decoder.{decode_checks, spectrum_decoded, Decodes}

-- a refused call
module _ (f : CodedFrame) where
  abbrev pub DecodesFrame : List Float → Result (Unit {0}) Refusal → Type 0
  DecodesFrame left answer = Decodes f.duration f.bandwidth f.filters f.orders f.indices f.spectrum left answer

  pub refused_decode : {why : Refusal} → ((next : Verdict (Unit {0})) → refused (says why) ≡ checks_of f next) → DecodesFrame f.spectrum (Err why)
  unfolding decode_checks spectrum_decoded
  refused_decode {why} e = record { answer = e no_fault; lines = left_alone (e no_fault) _ f.spectrum }

-- an accepted one
pub accepted_spectrum : (duration bandwidth filters : ℕ) (orders indices : List ℕ) (lines : List Float)
    → no_fault ≡ decode_checks duration bandwidth filters orders indices (length lines)
    → row_decoded (row_of (duration_of duration) bandwidth) filters orders indices lines ≡ spectrum_decoded duration bandwidth filters orders indices lines
unfolding spectrum_decoded
accepted_spectrum duration bandwidth filters orders indices lines e = written e _ lines

module _ (f : CodedFrame) {row : Row} (p : PassedFrame f row) where
  pub row_as_spectrum : row_decoded row f.filters f.orders f.indices f.spectrum
      ≡ spectrum_decoded f.duration f.bandwidth f.filters f.orders f.indices f.spectrum
  unfolding decode_checks
  row_as_spectrum =
      ap (λ (r : Row). row_decoded r f.filters f.orders f.indices f.spectrum) p.its_row
      ∙ accepted_spectrum f.duration f.bandwidth f.filters f.orders f.indices f.spectrum (sym (p.goes_on no_fault))

  pub decoded : (left : List Float) → left ≡ row_decoded row f.filters f.orders f.indices f.spectrum → DecodesFrame f left (Ok tt)
  unfolding decode_checks
  decoded left e = record { answer = sym (p.goes_on no_fault); lines = e ∙ row_as_spectrum }
