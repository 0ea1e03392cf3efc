-- docs/RULES.md, "Analysis": gain, damping and the on/off answer of a filter.
use Rattle.std.specs.Prelude.{Bool, not, ◌&&◌, cond, ℕ, eqb, Float}
use Rattle.std.specs.Float.Ieee.{eq, lt, of_bits}
use Rattle.std.specs.Float.{binary32}
use Rattle.law_rounding.specs.Floats.{◌⊖◌, ◌⊗◌, ◌⊘◌, f0, f1}
use Rattle.shape_gain.specs.declared.FilterGain.{FilterGain}

abbrev pub f1_5 : Float
f1_5 = of_bits binary32 0x3fc00000

abbrev pub f2 : Float
f2 = of_bits binary32 0x40000000

abbrev pub f0_85 : Float
f0_85 = of_bits binary32 0x3f59999a

abbrev pub f0_5 : Float
f0_5 = of_bits binary32 0x3f000000

-- r[0] divided by the error; an error of zero divides nothing
unfoldable pub gain_of : Float → Float → Float
gain_of r0 error = cond (eq error f0) r0 (r0 ⊘ error)

-- a gain over 1.5, which a NaN is not, without the flag
unfoldable pub is_on : Float → Bool → Bool
is_on gain flag = lt f1_5 gain && not flag

-- less than 1 only for a filter that is on, at weighting 1, with a gain below 2
unfoldable pub damping_of : Float → Bool → ℕ → Float
damping_of gain on weighting =
    cond (on && (eqb weighting 1 && lt gain f2)) (f1 ⊖ (f1 ⊖ f0_85) ⊗ (f2 ⊖ gain) ⊘ f0_5) f1

-- the record of a filter
unfoldable pub gain_record : Float → Float → Bool → ℕ → FilterGain
gain_record r0 error flag weighting =
    let gain = gain_of r0 error in
    record { gain = gain; damping = damping_of gain (is_on gain flag) weighting; on = is_on gain flag }
