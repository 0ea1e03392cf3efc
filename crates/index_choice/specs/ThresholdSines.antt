-- The thresholds against the formula of the public LC3 specification, with no library of sines in between: threshold k lies within two units in the
-- last place of sin ((k - 1/2) π / 17).
--
-- For s = sin θ the number cos 17θ / cos θ is a polynomial of degree 16 in s and even in s, with the roots ± sin ((k - 1/2) π / 17), k from 1 to 8:
-- it changes its sign between the f32s two below and two above each threshold. The polynomial and the places of the f32s are those of `Sines`.
use Rattle.std.specs.Prelude.{◌≡◌, refl, Bool, true, map, ◌^◌, ℤ, pos, ◌+ℤ◌, ◌-ℤ◌}
use Rattle.std.specs.Float.Ieee.{of_bits}
use Rattle.law_lists.specs.Every.{every}
use Rattle.index_coefficients.specs.Sines.{cosine17, rank_of, value_at, opposite}
use Rattle.index_choice.specs.Indices.{threshold_patterns}

-- cos 17θ / cos θ changes its sign between two places below and two above
unfoldable pub within_two : ℤ → Bool
unfolding opposite cosine17 value_at
within_two k = opposite (cosine17 (value_at (k -ℤ pos 2)) (pos (2 ^ 149))) (cosine17 (value_at (k +ℤ pos 2)) (pos (2 ^ 149)))

-- each threshold lies within two units in the last place of its sine
pub thresholds_are_sines : every within_two (map rank_of threshold_patterns) ≡ true
unfolding within_two rank_of of_bits
thresholds_are_sines = refl
