-- docs/RULES.md, "Gains (C-18)": cases of a filter's record, one list and one statement that the checker computes of the definitions. Then what an encode
-- call tells of a silent frame without a second band, and of a frame that it refuses.
use Rattle.std.specs.Prelude.{◌≡◌, refl, Bool, true, false, ◌&&◌, List, [], ◌∷◌, ℕ, eqb, replicate}
use Rattle.std.specs.Float.{binary32}
use Rattle.std.specs.Float.Ieee.{of_bits, to_bits, add, sub, mul, div, neg, eq, ne, lt}
use Rattle.law_lists.specs.Every.{every}
use Rattle.law_lists.specs.Places.{tab}
use Rattle.law_rounding.specs.Floats.{f0}
use Rattle.row_durations.specs.Durations.{weighting_of}
use Rattle.row_bands.specs.Bands.{row_of}
use Rattle.check_frame.specs.Frames.{frame_checks}
use Rattle.shape_sums.specs.LagSums.{products, lag_sum}
use Rattle.shape_lags.specs.Autocorrelation.{normalized_lag, autocorrelation}
use Rattle.shape_recursion.specs.Recursion.{crossed, reflection, next_row, stepped, unpredicted, predicted}
use Rattle.shape_gain.specs.Gain.{gain_of, is_on, damping_of, gain_record}
use Rattle.shape_gain.specs.Gains.{on_number, gain_numbers, on_numbers}
use Rattle.shape_gain.specs.declared.Gains.{Gains}
use Rattle.shape_filter.specs.Analysis.{filter_record}
use Rattle.shape_frame.specs.FrameSide.{gains_of}
use Rattle.call_encode.specs.Encoder.{encode_verdict, gains_found, gains_in}
use Rattle.examples.specs.Worked.{patterns}

-- the error that the recursion leaves of lag 0, which is 3; the flag, the weighting; gain, damping, and 1 if the filter is on
pub data Case : Type 0 where
  tells : ℕ → Bool → ℕ → ℕ → ℕ → ℕ → Case

unfoldable pub gains : List Case
gains =
    tells 0x40000000 false 1 0x3fc00000 0x3f800000 0 ∷  -- a gain of exactly 1.5
    tells 0x3fffffff false 1 0x3fc00001 0x3f59999a 1 ∷  -- the next f32: damping 0.85
    tells 0x3fe00000 false 1 0x3fdb6db7 0x3f6a0ea1 1 ∷  -- 12 / 7: damped
    tells 0x3fe00000 false 0 0x3fdb6db7 0x3f800000 1 ∷  -- not so at weighting 0
    tells 0x3fe00000 true 1 0x3fdb6db7 0x3f800000 0 ∷  -- the flag: the gain is told, the damping is 1
    tells 0x3fc00000 false 1 0x40000000 0x3f800000 1 ∷  -- a gain of exactly 2
    tells 0x00000000 false 1 0x40400000 0x3f800000 1 ∷  -- an error of 0
    tells 0x7f800000 false 1 0x00000000 0x3f800000 0 ∷  -- an infinite error
    tells 0xbf800000 false 1 0xc0400000 0x3f800000 0 ∷  -- a negative one
    tells 0x7fc00000 false 1 0x7fc00000 0x3f800000 0 ∷  -- a NaN
    []

unfoldable pub right : Case → Bool
right (tells error flag weighting gain damping on) =
    let r = gain_record (of_bits binary32 0x40400000) (of_bits binary32 error) flag weighting in
    eqb (to_bits binary32 r.gain) gain && eqb (to_bits binary32 r.damping) damping && eqb (on_number r.on) on

pub gain_cases_hold : every right gains ≡ true
unfolding gains right of_bits to_bits sub mul div neg eq lt gain_of is_on damping_of gain_record
gain_cases_hold = refl

-- ---- whole calls

-- So many lines of 0, at 10 ms and bandwidth 0, for 320 bits: gain and damping of both filters, and whether each is on. 79 lines are refused.
abbrev told : ℕ → Gains
told lines = let silence = replicate lines f0 in gains_in (encode_verdict 0 0 320 false silence) (gains_found 0 0 320 false silence)

pub record Told : Type 0 where
  pub silent : patterns (gain_numbers (told 80)) ≡ 0x3f800000 ∷ 0x3f800000 ∷ 0x00000000 ∷ 0x3f800000 ∷ []
  pub silent_on : on_numbers (told 80) ≡ 0 ∷ 0 ∷ []
  pub refused : patterns (gain_numbers (told 79)) ≡ replicate 4 0
  pub refused_on : on_numbers (told 79) ≡ 0 ∷ 0 ∷ []

pub told_of_silence : Told
unfolding of_bits to_bits add sub mul div neg eq ne lt weighting_of row_of frame_checks tab products lag_sum normalized_lag autocorrelation crossed reflection next_row stepped unpredicted predicted gain_of is_on damping_of gain_record filter_record gains_of encode_verdict
told_of_silence = record { silent = refl; silent_on = refl; refused = refl; refused_on = refl }
