-- docs/RULES.md, "Index and coefficient": the step of the indices is 12401689 / 2 ^ 26. It is an f32, and the spellings in E and in D both give it.
-- Nothing else here uses the step: the tables were swept out of the Rust, and are compared with the sines themselves (`Sines`, and `ThresholdSines` of
-- index_choice).
use Rattle.std.specs.Prelude.{◌≡◌, ◌*◌, false, negsuc}
use Rattle.std.specs.Prelude.{refl, Float}
use Rattle.std.specs.Float.{nan, inf, fin, binary32, binary64}
use Rattle.std.specs.Float.Ieee.{up, down, div, round, of_bits}

-- 12401689 / 2 ^ 26: a whole number times 2 ^ -26
abbrev pub step : Float
step = fin false 12401689 (negsuc 25)

-- Rust's `core::f64::consts::PI` and 17, the latter in both formats
abbrev pub π : Float
π = of_bits binary64 0x400921fb54442d18

abbrev pub seventeen : Float
seventeen = of_bits binary32 0x41880000

abbrev pub seventeen64 : Float
seventeen64 = of_bits binary64 0x4031000000000000

-- Rust's `as f32`: the nearest f32
abbrev pub as_f32 : Float → Float
as_f32 nan = nan
as_f32 (inf s) = inf s
as_f32 (fin s m e) = round binary32 s (m * up e) (down e)

-- E: `PI as Scaler / 17.0`. D: `(PI / 17.0) as Scaler`
abbrev pub step_of_e : Float
step_of_e = div binary32 (as_f32 π) seventeen

abbrev pub step_of_d : Float
step_of_d = as_f32 (div binary64 π seventeen64)

-- its pattern, and that both spellings are it
pub step_is : (step ≡ of_bits binary32 0x3e3d3c19) × (step_of_e ≡ step) × (step_of_d ≡ step)
unfolding of_bits div round
step_is = (refl, refl, refl)
