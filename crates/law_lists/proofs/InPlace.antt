-- The laws of a loop that takes lines upwards in place: one line more, and none left; and of a run that is split at a line. One proof for every
-- lattice.
use mathlib.Core.Path.{◌≡◌, refl, ap}
use mathlib.Core.List.{List, [], ◌∷◌, ◌++◌, append_assoc, append-nil}
use Prim.Native.Nat.{ℕ, suc, ◌+◌, ◌<◌, ◌≤◌}
use native.Mathlib.Numerals.{add-one}
use native.Mathlib.Omega.{arith}
use lib.ListN.{length, take, drop, get_or, set, drop_of_length-le}
use lib.Seq.{take-suc-set, drop-set-lt, drop-cons, take_all}
use Rattle.law_lists.specs.Lines.{lines_through, state_through}

module _ {A S : Type 0} (becomes : S → A → A) (after : S → A → S) (d : A) where
  -- lines before i are done; the line at i takes its place, and the state goes on
  pub one_more : (s next : S) (xs : List A) (i : ℕ) (v : A) → i < length xs → v ≡ becomes s (get_or xs i d) → next ≡ after s (get_or xs i d)
      → take i xs ++ lines_through becomes after s (drop i xs) ≡ take (i + 1) (set xs i v) ++ lines_through becomes after next (drop (i + 1) (set xs i v))
  unfolding lines_through
  one_more s next xs i v h e f =
      let below : i < suc i = omega arith in
      rw (add-one, drop-set-lt (suc i) xs i v below, take-suc-set xs i v h, append_assoc, drop-cons xs i d h, e, f)

  pub state_more : (s next : S) (xs : List A) (i : ℕ) (v : A) → i < length xs → next ≡ after s (get_or xs i d)
      → state_through after s (drop i xs) ≡ state_through after next (drop (i + 1) (set xs i v))
  unfolding state_through
  state_more s next xs i v h f =
      let below : i < suc i = omega arith in
      rw (add-one, drop-set-lt (suc i) xs i v below, drop-cons xs i d h, f)

  pub none_left : (s : S) (xs : List A) (i : ℕ) → length xs ≤ i → take i xs ++ lines_through becomes after s (drop i xs) ≡ xs
  unfolding lines_through
  none_left s xs i h = rw (drop_of_length-le xs h, take_all i xs h, append-nil)

  pub state_left : (s : S) (xs : List A) (i : ℕ) → length xs ≤ i → state_through after s (drop i xs) ≡ s
  unfolding state_through
  state_left s xs i h = rw (drop_of_length-le xs h)

  pub through_length : (s : S) (xs : List A) → length (lines_through becomes after s xs) ≡ length xs
  unfolding lines_through
  through_length s [] = refl
  through_length s (x ∷ xs) = ap suc (through_length (after s x) xs)

  -- lines in two parts are two runs, the second from the state after the first
  pub lines_split : (s : S) (xs ys : List A)
      → lines_through becomes after s (xs ++ ys) ≡ lines_through becomes after s xs ++ lines_through becomes after (state_through after s xs) ys
  unfolding lines_through state_through
  lines_split s [] ys = refl
  lines_split s (x ∷ xs) ys = ap (λ (l : List A). becomes s x ∷ l) (lines_split (after s x) xs ys)

  pub state_split : (s : S) (xs ys : List A) → state_through after s (xs ++ ys) ≡ state_through after (state_through after s xs) ys
  unfolding state_through
  state_split s [] ys = refl
  state_split s (x ∷ xs) ys = state_split (after s x) xs ys

  -- where a line and the state stay as they are, so do all lines
  module _ (same_line : (s : S) (x : A) → becomes s x ≡ x) (same-state : (s : S) (x : A) → after s x ≡ s) where
    pub lines_unchanged : (s : S) (xs : List A) → xs ≡ lines_through becomes after s xs
    unfolding lines_through
    lines_unchanged s [] = refl
    lines_unchanged s (x ∷ xs) = rw (same_line s x, same-state s x) (ap (λ (l : List A). x ∷ l) (lines_unchanged s xs))

    pub state_unchanged : (s : S) (xs : List A) → s ≡ state_through after s xs
    unfolding state_through
    state_unchanged s [] = refl
    state_unchanged s (x ∷ xs) = rw (same-state s x) (state_unchanged s xs)
