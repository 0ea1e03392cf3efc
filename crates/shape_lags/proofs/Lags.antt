-- The lags from the sums of three subbands are the lags of the subbands.
use mathlib.Core.Path.{◌≡◌, ◌∙◌, ap}
use mathlib.Core.List.{List}
use Prim.Native.Nat.{ℕ, ◌<◌}
use native.Mathlib.Omega.{arith}
use lib.Ieee.{Float, eq}
use Rattle.law_rounding.specs.Floats.{◌⊗◌, f0}
use Rattle.law_lists.specs.Places.{at, tab}
use Rattle.law_lists.proofs.Tab.{length_tab, at_tab, is_tab}
use Rattle.shape_sums.specs.LagSums.{lag_sum}
use Rattle.shape_lags.specs.Autocorrelation.{normalized_lag}
use Rattle.shape_lags.specs.LagCells.{lag_cell}

-- a lag from the sums is the lag of the subbands
module _ (xs ys zs a b c : List Float) (ea : a ≡ tab (lag_sum xs) 9) (eb : b ≡ tab (lag_sum ys) 9) (ec : c ≡ tab (lag_sum zs) 9) where
  sum_at : (l s : List Float) → l ≡ tab (lag_sum s) 9 → (k : ℕ) → k < 9 → at l k ≡ lag_sum s k
  sum_at l s e k h = ap (λ (l : List Float). at l k) e ∙ at_tab (lag_sum s) 9 k h

  lag_is : (k : ℕ) → k < 9 → lag_cell (eq (at a 0 ⊗ at b 0 ⊗ at c 0) f0) a b c k ≡ normalized_lag xs ys zs k
  unfolding normalized_lag
  lag_is k h =
      rw (
        sum_at a xs ea k h,
        sum_at b ys eb k h,
        sum_at c zs ec k h,
        sum_at a xs ea 0 (omega arith),
        sum_at b ys eb 0 (omega arith),
        sum_at c zs ec 0 (omega arith),
      )

  pub lags_are : tab (lag_cell (eq (at a 0 ⊗ at b 0 ⊗ at c 0) f0) a b c) 9 ≡ tab (normalized_lag xs ys zs) 9
  lags_are =
      let f = lag_cell (eq (at a 0 ⊗ at b 0 ⊗ at c 0) f0) a b c in
      is_tab (normalized_lag xs ys zs) 9 (tab f 9) (length_tab f 9) (λ k h. at_tab f 9 k h ∙ lag_is k h)
