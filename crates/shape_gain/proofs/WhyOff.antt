-- C-18: why a filter of a band is off. A gain that is not over 1.5, as a NaN is not, or the flag: there is no other reason. And a filter that is off is
-- not damped.
use mathlib.Core.Path.{◌≡◌, refl}
use mathlib.Core.Bool.{Bool, true, false}
use Prim.Native.Nat.{ℕ}
use lib.Ieee.{Float, lt}
use Rattle.law_rounding.specs.Floats.{f1}
use Rattle.shape_gain.specs.Gain.{f1_5, is_on, damping_of, gain_record}

-- a gain over 1.5 is off by the flag alone
pub off_by_flag : (r0 error : Float) (flag : Bool) (weighting : ℕ) → (gain_record r0 error flag weighting).on ≡ false
    → lt f1_5 (gain_record r0 error flag weighting).gain ≡ true → flag ≡ true
unfolding gain_record is_on
off_by_flag r0 error true weighting off over = refl
off_by_flag r0 error false weighting off over = cc

-- any other gain is off, whatever the flag
pub not_over_off : (r0 error : Float) (flag : Bool) (weighting : ℕ) → lt f1_5 (gain_record r0 error flag weighting).gain ≡ false
    → (gain_record r0 error flag weighting).on ≡ false
unfolding gain_record is_on
not_over_off r0 error flag weighting e = rw e

-- damping 1 where off
pub off_undamped : (r0 error : Float) (flag : Bool) (weighting : ℕ) → (gain_record r0 error flag weighting).on ≡ false
    → (gain_record r0 error flag weighting).damping ≡ f1
unfolding gain_record damping_of
off_undamped r0 error flag weighting e = rw e
