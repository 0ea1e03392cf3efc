-- The end of a path's folder, by where its last slash lies.
use mathlib.Core.Path.{◌≡◌, refl, sym, ◌∙◌, ap}
use mathlib.Core.List.{List}
use Prim.Native.Nat.{ℕ, zero, suc, ◌+◌, ◌<◌, ◌≤◌}
use native.Mathlib.Omega.{arith}
use native.Mathlib.Decide.{dec_lt}
use borrow.Author.Tests.{eq-eqb, ne_eqb}
use lib.ListN.{length, take, get_or}
use Rattle.io.proofs.Counting.{prefix_len_of_le}
use Rattle.std.specs.Prelude.{Option, Some, None, slice_index, EachIndex, MatchOption}
use Rattle.io_paths.specs.Paths.{slash_within, IsLastSlash, CountsFolder}

module _ (path : List ℕ) where
  -- behind the last slash among the first bytes nothing changes
  at_last : (last n : ℕ) → last < n → get_or path last 0 ≡ 47 → ((k : ℕ) → last < k → k < n → get_or path k 0 ≡ 47 → ⊥) → slash_within n path ≡ last + 1
  unfolding slash_within
  at_last last zero h e rest = absurd (omega (arith, h))
  at_last last (suc n) h e rest = elim (dec_lt last n) [
    | yes before ↦ rw (ne_eqb (get_or path n 0) 47 (rest n before (omega arith))) (at_last last n before e (λ k a b. rest k a (omega arith)))
    | no same ↦
        let here : last ≡ n = omega arith in
        let slash : get_or path n 0 ≡ 47 = ap (λ (k : ℕ). get_or path k 0) (sym here) ∙ e in
        rw (eq-eqb (get_or path n 0) 47 slash) (omega (arith, here))
  ]

  no_slash : (n : ℕ) → ((k : ℕ) → k < n → get_or path k 0 ≡ 47 → ⊥) → slash_within n path ≡ 0
  unfolding slash_within
  no_slash zero none = refl
  no_slash (suc n) none = rw (ne_eqb (get_or path n 0) 47 (none n (omega arith))) (no_slash n (λ k h. none k (omega arith)))

  folder : (end : ℕ) → end ≤ length path → end ≡ slash_within (length path) path → CountsFolder path end
  folder end within e =
      record { counts = prefix_len_of_le end path within; folder = ap (λ (k : ℕ). take k path) e }

  -- behind the last slash, if there is one
  pub counts_folder : (last : Option ℕ) (end : ℕ) → MatchOption last (EachIndex path (λ k. slice_index path k ≡ 47 → ⊥)) (IsLastSlash path)
      → MatchOption last (end ≡ 0) (λ place. end ≡ place + 1) → CountsFolder path end
  counts_folder None end none e = folder end (omega (arith, e)) (e ∙ sym (no_slash (length path) none))
  counts_folder (Some last) end h e = folder end (omega (arith, e, h.0)) (e ∙ sym (at_last last (length path) h.0 h.1 h.2))
