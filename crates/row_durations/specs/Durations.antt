-- docs/RULES.md, "Band rows" and "Analysis": what each duration keeps as its own, and the weighting of a frame.
use Rattle.std.specs.Prelude.{cond, ℕ, zero, suc, ltb}
use Rattle.row_durations.specs.declared.Duration.{Duration}
use Rattle.row_durations.specs.declared.Duration.TheVariants.{Ten, SevenPointFive}

-- the numbers of a duration: where its first band begins, how many lines it allows, its limit for the weighting
pub record DurationNumbers : Type 0 where
  pub first_line : ℕ
  pub longest : ℕ
  pub weighting_limit : ℕ

-- 12, 400, 480 and 9, 300, 360
abbrev pub numbers_of : Duration → DurationNumbers
numbers_of Ten = record { first_line = 12; longest = 400; weighting_limit = 480 }
numbers_of SevenPointFive = record { first_line = 9; longest = 300; weighting_limit = 360 }

-- The duration of a code: 0 is 10 ms and 1 is 7.5 ms. No other code passes check 1.
abbrev pub duration_of : ℕ → Duration
duration_of zero = Ten
duration_of (suc code) = SevenPointFive

-- 1 for a frame of fewer bits than the limit, else 0
unfoldable pub weighting_of : DurationNumbers → ℕ → ℕ
weighting_of d nbits = cond (ltb nbits d.weighting_limit) 1 0
