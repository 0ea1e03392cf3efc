-- Demand 3, of the lines of one band: how near each has to be to its exact line, and for which m.
use Rattle.std.specs.Prelude.{◌≡◌, List, ℕ, ◌<◌, length, get_or, ℤ, pos, neg_ℤ, ◌-ℤ◌, ◌≤ℤ◌, Float}
use Rattle.std.specs.Float.{nan}
use Rattle.law_rounding.specs.Units.{WithinOf}

-- 2^(m-13), by its exponent
abbrev pub nearness : ℤ → ℤ
nearness m = m -ℤ pos 13

-- each line of a band is finite and within 2^(m-13) of its exact line
pub record EachNear (m : ℤ) (lines : List Float) (exact : List ℤ) : Type 0 where
  pub as_many : length lines ≡ length exact
  pub each : (j : ℕ) → j < length lines → WithinOf 357 (nearness m) (get_or lines j nan) (get_or exact j (pos 0))

-- for whole m from -126 to 119
abbrev pub InRange : ℤ → Type 0
InRange m = (neg_ℤ (pos 126) ≤ℤ m) × (m ≤ℤ pos 119)
