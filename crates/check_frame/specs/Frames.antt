-- docs/RULES.md, "Refusal numbers": checks 1 to 3 of a frame.
use Rattle.std.specs.Prelude.{◌||◌, ℕ, ltb}
use Rattle.check_verdicts.specs.Verdicts.{Verdict, accepted, check}
use Rattle.check_side.specs.Sides.{code_checks}
use Rattle.row_durations.specs.Durations.{duration_of, numbers_of}
use Rattle.row_bands.specs.Bands.{row_of, last_stop}
use Rattle.row_durations.specs.declared.Duration.{Duration}
use Rattle.row_bands.specs.declared.Row.{Row}

-- 3: the spectrum ends before the row's last stop, or has more lines than the duration allows
abbrev pub length_check : {A : Type 0} → Duration → ℕ → ℕ → Verdict A → Verdict A
length_check duration bandwidth lines next = check 3 (ltb lines (last_stop (row_of duration bandwidth)) || ltb (numbers_of duration).longest lines) next

-- 1 and 2: the codes. 3: the length
unfoldable pub frame_checks : {A : Type 0} → ℕ → ℕ → ℕ → Verdict A → Verdict A
frame_checks duration bandwidth lines next = code_checks duration bandwidth (length_check (duration_of duration) bandwidth lines next)

-- the row of a frame that they find no fault with
unfoldable pub frame_of : ℕ → ℕ → ℕ → Verdict Row
frame_of duration bandwidth lines = frame_checks duration bandwidth lines (accepted (row_of (duration_of duration) bandwidth))
