-- A row further down, with its reflection coefficient stored; `is_tab` once all eight are.
use mathlib.Core.Path.{◌≡◌, refl, ◌∙◌}
use mathlib.Core.List.{List}
use Prim.Native.Nat.{ℕ, suc, ◌+◌, ◌-◌, ◌<◌, ◌≤◌}
use native.Mathlib.Decide.{ℕ_discrete}
use native.Mathlib.Omega.{arith}
use lib.Ieee.{Float, nan}
use lib.ListN.{length, length-set, set}
use lib.Seq.{get_or-set_same, get_or-set_other}
use Rattle.law_lists.specs.Places.{at}
use Rattle.shape_reflections.specs.Reflections.{row_below, row_at, reflections}
use Rattle.law_lists.proofs.Tab.{is_tab}
use Rattle.shape_reflections.proofs.reflected_row.Goals as goal

module _ (row down : List Float) (above k : ℕ) (is : k ≡ above - 1) (p : 0 < k) (q : k ≤ 8) (e : down ≡ row_at row (9 - above)) where
  -- one row further down
  further : row_below down k ≡ row_at row (9 - k)
  unfolding row_at
  further =
      let next : 9 - k ≡ suc (9 - above) = omega arith in
      let own : 8 - (9 - above) ≡ k = omega arith in
      rw (next, own, e)

  -- one reflection coefficient more
  stored : (rc : List Float) → length rc ≡ 8 → ((j : ℕ) → above ≤ j + 1 → j < 8 → at rc j ≡ at (row_at row (7 - j)) (suc j))
      → (j : ℕ) → k ≤ j + 1 → j < 8 → at (set rc (k - 1) (at down k)) j ≡ at (row_at row (7 - j)) (suc j)
  stored rc l h j g i = elim (ℕ_discrete j (k - 1)) [
    | yes s ↦
        let same : 7 - (k - 1) ≡ 9 - above = omega arith in
        let place : suc (k - 1) ≡ k = omega arith in
        rw (s, same, place, ← e) (get_or-set_same rc (k - 1) (at down k) nan (omega arith))
    | no d ↦ get_or-set_other rc (k - 1) j (at down k) nan d ∙ h j (omega arith) i
  ]

pub loop-k-init : goal.loop-k-init
unfolding row_at
loop-k-init c = (refl, refl, λ j h g. absurd (omega arith))

pub loop-k-preserved : goal.loop-k-preserved
loop-k-preserved c =
    let l = c.loop-k in
    let row = c.args.row in (
      simp length-set l.invariant.0,
      c.row_below-down.ensures ∙ further row l.down l.k (l.k - 1) refl (omega arith) (omega arith) l.invariant.1,
      stored row l.down l.k (l.k - 1) refl (omega arith) (omega arith) l.invariant.1 l.rc l.invariant.0 l.invariant.2,
    )

pub returns : goal.returns
unfolding reflections
returns c =
    let l = c.loop-k in
    let row = c.args.row in
    is_tab (λ n. at (row_at row (7 - n)) (suc n)) 8 l.rc l.invariant.0 (λ j h. l.invariant.2 j (omega arith) h)
