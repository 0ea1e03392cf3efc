-- What a line adds to the nine sums of a subband, and how the sums grow to those of the whole subband.
use mathlib.Core.Path.{◌≡◌, refl, ◌∙◌, ap}
use mathlib.Core.List.{List}
use Prim.Native.Nat.{ℕ, suc, ◌+◌, ◌-◌, ◌≤◌, ◌<◌, min}
use native.Mathlib.Decide.{dec_lt}
use native.Mathlib.Omega.{arith}
use borrow.Author.Tests.{lt-ltb, le-ltb}
use lib.Ieee.{Float}
use lib.ListN.{length}
use Rattle.law_rounding.specs.Floats.{◌⊕◌, ◌⊗◌, f0}
use Rattle.law_lists.specs.Places.{at, tab}
use Rattle.shape_sums.specs.LagSums.{products, lag_sum}
use Rattle.shape_sums.specs.PartialSums.{added_cell, sums_to}
use Rattle.law_lists.proofs.Tab.{length_tab, at_tab, is_tab}

-- the first none and the first m + 1 products
no_products : (xs : List Float) (k m : ℕ) → m ≡ 0 → f0 ≡ products xs k m
unfolding products
no_products xs k m e = rw e

one_product : (xs : List Float) (k m : ℕ) → products xs k m ⊕ at xs m ⊗ at xs (m + k) ≡ products xs k (suc m)
unfolding products
one_product xs k m = refl

-- no line has added its products yet
pub sums_none : (xs zeros : List Float) → zeros ≡ tab (λ k. f0) 9 → zeros ≡ sums_to xs 0
unfolding sums_to
sums_none xs zeros e =
    is_tab (λ k. products xs k (min 0 (length xs - k))) 9 zeros (ap length e ∙ length_tab (λ k. f0) 9)
    (λ i h. ap (λ (l : List Float). at l i) e ∙ at_tab (λ k. f0) 9 i h ∙ no_products xs i (min 0 (length xs - i)) (omega arith))

-- a line adds its product to each lag that still has a line so far on
pub sums_more : (xs : List Float) (n m : ℕ) → n < length xs → m ≡ min 9 (length xs - n) → tab (added_cell (sums_to xs n) xs n m) 9 ≡ sums_to xs (n + 1)
unfolding sums_to
sums_more xs n m h e =
    is_tab (λ k. products xs k (min (n + 1) (length xs - k))) 9 (tab (added_cell (sums_to xs n) xs n m) 9) (length_tab (added_cell (sums_to xs n) xs n m) 9)
    (λ k g. at_tab (added_cell (sums_to xs n) xs n m) 9 k g ∙ lag k g)
  where
    before : (k : ℕ) → k < 9 → at (sums_to xs n) k ≡ products xs k (min n (length xs - k))
    before k g = at_tab (λ k. products xs k (min n (length xs - k))) 9 k g

    lag : (k : ℕ) → k < 9 → added_cell (sums_to xs n) xs n m k ≡ products xs k (min (n + 1) (length xs - k))
    lag k g = elim (dec_lt k m) [
      | yes below ↦
          let here : min n (length xs - k) ≡ n = omega arith in
          let next : min (n + 1) (length xs - k) ≡ suc n = omega arith in
          rw (lt-ltb k m below, before k g, here, next) (one_product xs k n)
      | no above ↦
          let same : min n (length xs - k) ≡ min (n + 1) (length xs - k) = omega arith in
          rw (le-ltb k m (omega arith), before k g, same)
    ]

-- once every line has added its products, the sums are those of the subband
pub sums_all : (xs : List Float) (n : ℕ) → length xs ≤ n → sums_to xs n ≡ tab (lag_sum xs) 9
unfolding sums_to lag_sum
sums_all xs n h =
    is_tab (lag_sum xs) 9 (sums_to xs n) (length_tab (λ k. products xs k (min n (length xs - k))) 9)
    (λ k g. at_tab (λ k. products xs k (min n (length xs - k))) 9 k g ∙ whole k)
  where
    whole : (k : ℕ) → products xs k (min n (length xs - k)) ≡ products xs k (length xs - k)
    whole k = let e : min n (length xs - k) ≡ length xs - k = omega arith in rw e
