-- Laws of lists that are written place by place, `tab`.
use mathlib.Core.Path.{◌≡◌, refl, sym, ◌∙◌}
use mathlib.Core.List.{List, [], ◌∷◌}
use Prim.Native.Nat.{ℕ, zero, suc, ◌+◌, ◌<◌}
use native.Mathlib.Omega.{arith}
use native.Mathlib.Decide.{dec_lt}
use lib.Ieee.{Float, nan}
use lib.ListN.{length, length-append, get_or-append}
use lib.Seq.{ext_get_or, get_or_at}
use Rattle.law_lists.specs.Places.{at, tab}

pub length_tab : (f : ℕ → Float) (n : ℕ) → length (tab f n) ≡ n
unfolding tab
length_tab f zero = refl
length_tab f (suc n) = omega (arith, length-append (tab f n) (f n ∷ []), length_tab f n)

pub at_tab : (f : ℕ → Float) (n i : ℕ) → i < n → at (tab f n) i ≡ f i
unfolding tab
at_tab f zero i h = absurd (omega arith)
at_tab f (suc n) i h = elim (dec_lt i n) [
  | yes below ↦ get_or-append (tab f n) (f n ∷ []) nan i (omega (arith, length_tab f n)) ∙ at_tab f n i below
  | no above ↦
      let e : i ≡ n = omega arith in
      rw e (get_or_at (tab f n) (f n) [] nan n (length_tab f n))
]

-- a list of n numbers that has the values of f at its places
pub is_tab : (f : ℕ → Float) (n : ℕ) (xs : List Float) → length xs ≡ n → ((i : ℕ) → i < n → at xs i ≡ f i) → xs ≡ tab f n
is_tab f n xs l h = ext_get_or nan xs (tab f n) (l ∙ sym (length_tab f n)) (λ i g. h i (omega arith) ∙ sym (at_tab f n i (omega arith)))
