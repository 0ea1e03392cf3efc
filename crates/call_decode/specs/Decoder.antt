-- The decode call: its answer, and the spectrum after it.
use Rattle.std.specs.Prelude.{◌≡◌, List, ℕ, length, Float, Result}
use Rattle.check_verdicts.specs.Verdicts.{Verdict, unless_refused, no_fault, verdict_by}
use Rattle.check_refusals.specs.Refusals.{says}
use Rattle.check_refusals.specs.declared.Refusal.{Refusal}
use Rattle.row_durations.specs.Durations.{duration_of}
use Rattle.row_bands.specs.Bands.{row_of}
use Rattle.check_coded.specs.CodedFrames.{call_checks}
use Rattle.side_decoded.specs.DecoderFilters.{row_decoded}

-- refusals 1 to 7, in number order
unfoldable pub decode_checks : ℕ → ℕ → ℕ → List ℕ → List ℕ → ℕ → Verdict (Unit {0})
decode_checks duration bandwidth filters orders indices lines = call_checks duration bandwidth filters orders indices lines no_fault

-- the spectrum after the call, and on a refusal the lines that came in
unfoldable pub spectrum_decoded : ℕ → ℕ → ℕ → List ℕ → List ℕ → List Float → List Float
spectrum_decoded duration bandwidth filters orders indices lines =
    unless_refused (decode_checks duration bandwidth filters orders indices (length lines))
    (λ u. row_decoded (row_of (duration_of duration) bandwidth) filters orders indices lines)
    lines

-- What the call promises: what it answers, and the lines that it leaves of those that it finds.
pub record Decodes (duration bandwidth filters : ℕ) (orders indices : List ℕ) (found left : List Float) (result : Result (Unit {0}) Refusal) : Type 0 where
  pub answer : verdict_by says result ≡ decode_checks duration bandwidth filters orders indices (length found)
  pub lines : left ≡ spectrum_decoded duration bandwidth filters orders indices found
