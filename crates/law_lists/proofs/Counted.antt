-- Laws of counted filters: as many as are counted, what one and two of them are, one more of them, and what is made of each. And totals.
use mathlib.Core.Path.{◌≡◌, refl, ◌∙◌, ap}
use mathlib.Core.List.{List, [], ◌∷◌, ◌++◌, map}
use Prim.Native.Nat.{ℕ, zero, suc, ◌+◌, ◌*◌}
use native.Mathlib.Omega.{arith}
use lib.ListN.{length, get_or, take, drop}
use lib.Seq.{get_or-drop, drop-drop}
use Rattle.law_lists.specs.Counted.{counted, total}

module _ {A : Type 0} (made : ℕ → List ℕ → A) where
  pub counted_length : (filters : ℕ) (orders indices : List ℕ) → length (counted made filters orders indices) ≡ filters
  unfolding counted
  counted_length zero orders indices = refl
  counted_length (suc filters) orders indices = ap suc (counted_length filters (drop 1 orders) (drop 8 indices))

  pub none_of_them : (orders indices : List ℕ) → counted made 0 orders indices ≡ []
  unfolding counted
  none_of_them orders indices = refl

  pub one_of_them : (orders indices : List ℕ) → counted made 1 orders indices ≡ made (get_or orders 0 0) (take 8 indices) ∷ []
  unfolding counted
  one_of_them orders indices = refl

  pub two_of_them : (orders indices : List ℕ)
      → counted made 2 orders indices ≡ made (get_or orders 0 0) (take 8 indices) ∷ made (get_or orders 1 0) (take 8 (drop 8 indices)) ∷ []
  unfolding counted
  two_of_them orders indices = rw (get_or-drop 1 orders 0 0)

  -- one filter more: it has the order and the eight indices at its place
  pub counted_more : (n : ℕ) (orders indices : List ℕ)
      → counted made (suc n) orders indices ≡ counted made n orders indices ++ made (get_or orders n 0) (take 8 (drop (8 * n) indices)) ∷ []
  unfolding counted
  counted_more zero orders indices = refl
  counted_more (suc n) orders indices =
      let next : 1 + n ≡ suc n = omega arith in
      let order : get_or (drop 1 orders) n 0 ≡ get_or orders (suc n) 0 = get_or-drop 1 orders n 0 ∙ ap (λ (k : ℕ). get_or orders k 0) next in
      let far : 8 + 8 * n ≡ 8 * suc n = omega arith in
      let eight : drop (8 * n) (drop 8 indices) ≡ drop (8 * suc n) indices = drop-drop (8 * n) 8 indices ∙ ap (λ (k : ℕ). drop k indices) far in
      ap (λ (l : List A). made (get_or orders 0 0) (take 8 indices) ∷ l) (counted_more n (drop 1 orders) (drop 8 indices) ∙ rw (order, eight))

-- what is made of what is made of each filter
pub counted_mapped : {A B : Type 0} (f : A → B) (made : ℕ → List ℕ → A) (filters : ℕ) (orders indices : List ℕ)
    → map f (counted made filters orders indices) ≡ counted (λ order eight. f (made order eight)) filters orders indices
unfolding counted
counted_mapped f made zero orders indices = refl
counted_mapped {A} {B} f made (suc filters) orders indices =
    ap (λ (l : List B). f (made (get_or orders 0 0) (take 8 indices)) ∷ l) (counted_mapped f made filters (drop 1 orders) (drop 8 indices))

pub total_append : (xs ys : List ℕ) → total (xs ++ ys) ≡ total xs + total ys
unfolding total
total_append [] ys = omega arith
total_append (x ∷ xs) ys = omega (arith, total_append xs ys)
