-- The coefficients against the formula of the public LC3 specification, with no library of sines in between: coefficient i is the f32 nearest to
-- sin ((i - 8) π / 17).
--
-- For s = sin θ the number sin 17θ is a polynomial in s of degree 17. Its 17 roots are the sines sin ((i - 8) π / 17), i from 0 to 16. Between the
-- half-way points below and above each coefficient it changes its sign. These 17 intervals do not meet and stand in the order of the table, so each
-- holds the one root of its place, and no f32 is nearer to that root. Beside it stands the polynomial of the thresholds, cos 17θ / cos θ, which
-- `index_choice` takes. All of it is about whole numbers.
use Rattle.std.specs.Prelude.{◌≡◌, ℕ, zero, suc, ◌-◌, ◌*◌, ◌/◌, ◌^◌, Bool, true, false, cond, map, ℤ, pos, negsuc, ◌+ℤ◌, ◌-ℤ◌, ◌*ℤ◌, neg_ℤ, nat_lt}
use Rattle.std.specs.Prelude.{refl, Float}
use Rattle.std.proofs.Math.IntN.{suc_ℤ, pred_ℤ}
use Rattle.std.specs.Float.{nan, inf, fin, binary32}
use Rattle.std.specs.Float.Ieee.{up, down, of_bits}
use Rattle.law_lists.specs.Every.{every}
use Rattle.index_coefficients.specs.Coefficients.{coefficient_patterns}

-- ---- sin 17θ and cos 17θ / cos θ, for sin θ = p / q

-- From the numbers of (n - 2)θ and nθ to those of nθ and (n + 2)θ, as often as said, by
-- sin (n + 2)θ = 2 cos 2θ sin nθ - sin (n - 2)θ, and the same of the cosine. Each step takes the factor q ² out of the fraction.
unfoldable pub ascend : ℤ → ℤ → ℕ → ℤ → ℤ → ℤ
ascend p q zero before last = last
ascend p q (suc steps) before last =
    let twiceCos2θ = pos 2 *ℤ (q *ℤ q -ℤ pos 2 *ℤ (p *ℤ p)) in
    ascend p q steps last (twiceCos2θ *ℤ last -ℤ q *ℤ q *ℤ (q *ℤ q) *ℤ before)

-- q ^ 17 sin 17θ, from sin θ = p / q and sin 3θ = 3 sin θ - 4 sin ³ θ
unfoldable pub sine17 : ℤ → ℤ → ℤ
unfolding ascend
sine17 p q = ascend p q 7 p (pos 3 *ℤ p *ℤ (q *ℤ q) -ℤ pos 4 *ℤ (p *ℤ p *ℤ p))

-- q ^ 16 cos 17θ / cos θ, from cos θ / cos θ = 1 and cos 3θ / cos θ = 1 - 4 sin ² θ
unfoldable pub cosine17 : ℤ → ℤ → ℤ
unfolding ascend
cosine17 p q = ascend p q 7 (pos 1) (q *ℤ q -ℤ pos 4 *ℤ (p *ℤ p))

-- at θ = 30°: sin 510° = 1/2 and cos 510° / cos 30° = -1
pub at_30_degrees : (sine17 (pos 1) (pos 2) ≡ pos (2 ^ 16)) × (cosine17 (pos 1) (pos 2) ≡ neg_ℤ (pos (2 ^ 16)))
unfolding sine17 cosine17
at_30_degrees = (refl, refl)

-- ---- the f32s in their order

-- the size of the f32 of a pattern below 2 ^ 31, in units of 2 ^ -149
unfoldable pub size_of : ℕ → ℕ
size_of pattern = size_in (of_bits binary32 pattern)
  where
    size_in : Float → ℕ
    size_in nan = 0
    size_in (inf s) = 0
    size_in (fin s m e) = m * up e * 2 ^ 149 / down e

-- The finite f32s have places: pattern k without a sign stands at k, with its sign at -k. Neighbours have neighbouring places.
unfoldable pub rank_of : ℕ → ℤ
rank_of pattern = cond (nat_lt pattern (2 ^ 31)) (pos pattern) (neg_ℤ (pos (pattern - 2 ^ 31)))

-- the f32 at a place, in units of 2 ^ -149
unfoldable pub value_at : ℤ → ℤ
unfolding size_of
value_at (pos k) = pos (size_of k)
value_at (negsuc k) = neg_ℤ (pos (size_of (suc k)))

-- the point half-way between the f32 at a place and the next, in units of 2 ^ -150
unfoldable pub halfway_above : ℤ → ℤ
unfolding value_at
halfway_above k = value_at k +ℤ value_at (suc_ℤ k)

-- ---- the claim

-- one number is above 0 and the other below
unfoldable pub opposite : ℤ → ℤ → Bool
opposite (pos zero) b = false
opposite (pos (suc a)) (pos b) = false
opposite (pos (suc a)) (negsuc b) = true
opposite (negsuc a) (pos zero) = false
opposite (negsuc a) (pos (suc b)) = true
opposite (negsuc a) (negsuc b) = false

-- sin 17θ changes its sign between the half-way points around a place
unfoldable pub nearest_to_root : ℤ → Bool
unfolding opposite sine17 halfway_above
nearest_to_root k = opposite (sine17 (halfway_above (pred_ℤ k)) (pos (2 ^ 150))) (sine17 (halfway_above k) (pos (2 ^ 150)))

-- each coefficient is the f32 nearest to its sine
pub coefficients_are_sines : every nearest_to_root (map rank_of coefficient_patterns) ≡ true
unfolding nearest_to_root rank_of of_bits
coefficients_are_sines = refl
