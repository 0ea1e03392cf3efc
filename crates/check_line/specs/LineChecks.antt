-- docs/RULES.md, "Refusal numbers" and "Restart at a line (C-22)": what a call at a line checks, 16 and 17 after the refusals 1 to 7 of every decode call.
use Rattle.std.specs.Prelude.{◌||◌, not, List, ℕ, ltb, eqb, length}
use Rattle.check_verdicts.specs.Verdicts.{Fault, numbered, Verdict, no_fault, check}
use Rattle.check_refusals.specs.Refusals.{says}
use Rattle.row_durations.specs.Durations.{duration_of}
use Rattle.row_bands.specs.Bands.{row_of, last_stop}
use Rattle.row_bands.specs.declared.Row.{Row}
use Rattle.check_coded.specs.CodedFrames.{CodedFrame, call_checks}
use Rattle.check_line.specs.declared.LineRefusal.{LineRefusal}
use Rattle.check_line.specs.declared.LineRefusal.TheVariants.{Call, Line, OutputLength}

-- 16: line n below the row's first start, or over its last stop. 17: spectrum and output differ in length
abbrev pub line_checks : {A : Type 0} → Row → ℕ → ℕ → ℕ → Verdict A → Verdict A
line_checks row lines n output next =
    check 16 (ltb n row.first.start || ltb (last_stop row) n)
    (check 17 (not (eqb output lines))
    next)

-- refusals 1 to 7, 16 and 17, in number order: 1 to 7 are judged on the spectrum
unfoldable pub line_call_checks : ℕ → ℕ → ℕ → List ℕ → List ℕ → ℕ → ℕ → ℕ → Verdict (Unit {0})
line_call_checks duration bandwidth filters orders indices lines n output =
    call_checks duration bandwidth filters orders indices lines
    (line_checks (row_of (duration_of duration) bandwidth) lines n output
    no_fault)

-- the same of a frame with its side data
abbrev pub checks_at_line : CodedFrame → ℕ → ℕ → Verdict (Unit {0})
checks_at_line f n output = line_call_checks f.duration f.bandwidth f.filters f.orders f.indices (length f.spectrum) n output

-- the number, and for 6 and 7 the place and the found value, of each refusal of a call at a line
abbrev pub line_says : LineRefusal → Fault
line_says (Call why) = says why
line_says Line = numbered 16
line_says OutputLength = numbered 17
