-- docs/RULES.md, "Refusal numbers": what every decode call checks, refusals 1 to 7; and what it is given, a frame with its side data, as one thing.
use Rattle.std.specs.Prelude.{List, ℕ, Float, length}
use Rattle.check_verdicts.specs.Verdicts.{Verdict}
use Rattle.row_durations.specs.Durations.{duration_of}
use Rattle.row_bands.specs.Bands.{row_of}
use Rattle.row_bands.specs.declared.Row.{Row}
use Rattle.check_side.specs.Sides.{side_checks}
use Rattle.check_frame.specs.Frames.{frame_checks}

-- refusals 1 to 7, in number order, for a spectrum of so many lines
abbrev pub call_checks : {A : Type 0} → ℕ → ℕ → ℕ → List ℕ → List ℕ → ℕ → Verdict A → Verdict A
call_checks duration bandwidth filters orders indices lines next = frame_checks duration bandwidth lines (side_checks filters orders indices next)

pub record CodedFrame : Type 0 where
  pub duration : ℕ
  pub bandwidth : ℕ
  pub filters : ℕ
  pub orders : List ℕ
  pub indices : List ℕ
  pub spectrum : List Float

-- its row
abbrev pub row_in : CodedFrame → Row
row_in f = row_of (duration_of f.duration) f.bandwidth

-- refusals 1 to 7 of it, and what follows them
abbrev pub checks_of : CodedFrame → Verdict (Unit {0}) → Verdict (Unit {0})
checks_of f next = call_checks f.duration f.bandwidth f.filters f.orders f.indices (length f.spectrum) next
