-- docs/RULES.md, "Restart at a line (C-22)": the decoder from a spectrum into an output, split at a line.
use Rattle.std.specs.Prelude.{◌≡◌, List, ◌++◌, ℕ, Float, length, take, Result}
use Rattle.check_verdicts.specs.Verdicts.{unless_refused, verdict_by}
use Rattle.row_durations.specs.Durations.{duration_of}
use Rattle.row_bands.specs.Bands.{row_of}
use Rattle.check_line.specs.LineChecks.{line_call_checks, line_says}
use Rattle.check_line.specs.declared.LineRefusal.{LineRefusal}
use Rattle.side_split.specs.SplitRun.{states_before, lines_from}
use Rattle.call_decode.specs.Decoder.{spectrum_decoded}

-- a caller's two lists, as save finds them or leaves them
pub record Lent : Type 0 where
  pub output : List Float
  pub states : List Float

abbrev pub lent_at_line : List Float → List Float → Lent
lent_at_line output states = record { output = output; states = states }

-- What save promises: what it answers, that the output then holds what the decode call leaves of the spectrum, and the states before line n. A refusal
-- leaves both lists as they were.
pub record Saves (duration bandwidth filters : ℕ) (orders indices : List ℕ) (spectrum : List Float) (n : ℕ) (found left : Lent) (result : Result (Unit {0}) LineRefusal) : Type 0 where
  pub answer : verdict_by line_says result ≡ line_call_checks duration bandwidth filters orders indices (length spectrum) n (length found.output)
  pub output : left.output
      ≡ unless_refused (line_call_checks duration bandwidth filters orders indices (length spectrum) n (length found.output))
      (λ u. spectrum_decoded duration bandwidth filters orders indices spectrum)
      found.output
  pub states : left.states
      ≡ unless_refused (line_call_checks duration bandwidth filters orders indices (length spectrum) n (length found.output))
      (λ u. states_before n (row_of (duration_of duration) bandwidth) filters orders indices spectrum)
      found.states

-- What restart promises: what it answers, and that the output holds below line n what was there before, and from it on what comes of the spectrum and
-- the states.
pub record Restarts (duration bandwidth filters : ℕ) (orders indices : List ℕ) (spectrum : List Float) (n : ℕ) (states found left : List Float)
    (result : Result (Unit {0}) LineRefusal) : Type 0 where
  pub answer : verdict_by line_says result ≡ line_call_checks duration bandwidth filters orders indices (length spectrum) n (length found)
  pub output : left
      ≡ unless_refused (line_call_checks duration bandwidth filters orders indices (length spectrum) n (length found))
      (λ u. take n found ++ lines_from n (row_of (duration_of duration) bandwidth) filters orders indices states spectrum)
      found
