-- The size is x, turned around where it is below 0, and the count is that of the size, or 0 past 1: by `Sizes` that is the rule's index.
use Rattle.std.proofs.Common.{◌≡◌, ℕ, ◌+◌, ◌-◌, ◌≤◌, Bool, true, false, cond, ◌∙◌, ap, arith}
use Rattle.std.specs.Float.Ieee.{lt, le, neg}
use Rattle.law_rounding.specs.Floats.{f0, f1}
use Rattle.index_choice.proofs.Indices.{index_at_most}
use Rattle.index_choice.proofs.Sizes.{size_of, count_of, few, taken_off, added}
use Rattle.index_choice.proofs.index_of.Goals as goal
use Rattle.index_choice.proofs.index_of.Goals.{then-x, else-x, then-x-2, else-x-2, After-step_if-count}

-- what a test that held, or failed, has chosen
held : {A : Type 0} (b : Bool) (p q : A) → b ≡ true → p ≡ cond b p q
held b p q e = rw e

failed : {A : Type 0} (b : Bool) (p q : A) → b ≡ false → q ≡ cond b p q
failed b p q e = rw e

count_is : (c : After-step_if-count) → c.step_if-count.result ≡ count_of (size_of c.args.x)
count_is c =
    let x = c.args.x in
    let size = c.if-x.size in
    let size_is : size ≡ size_of x = elim c.if-x.branch [
      | then-x w ↦ w.size-is ∙ held (lt x f0) (neg x) x w.if-x.true
      | else-x w ↦ w.size-is ∙ failed (lt x f0) (neg x) x w.if-x.false
    ] in
    c.step_if-count.ensures ∙ ap (λ (n : ℕ). cond (le size f1) n 0) c.not_above.ensures ∙ ap count_of size_is

at_most_eight : (c : After-step_if-count) → c.step_if-count.result ≤ 8
at_most_eight c = omega (arith, count_is c, few (size_of c.args.x))

pub overflow_sub-index : goal.overflow_sub-index
overflow_sub-index c = at_most_eight (goal.at.overflow_sub-index c).After-step_if-count

pub overflow_add-index : goal.overflow_add-index
overflow_add-index c = omega (arith, at_most_eight (goal.at.overflow_add-index c).After-step_if-count)

pub returns : goal.returns
returns c =
    let x = c.args.x in
    let count = count_is (goal.at.returns c).After-step_if-count in
    elim c.if-x-2.branch [
      | then-x-2 w ↦ w.index-is ∙ ap (λ (n : ℕ). 8 - n) count ∙ taken_off x w.if-x-2.true
      | else-x-2 w ↦ w.index-is ∙ ap (λ (n : ℕ). 8 + n) count ∙ added x w.if-x-2.false
    ]

pub overflow_cast-result : goal.overflow_cast-result
overflow_cast-result c = omega (arith, returns c, index_at_most c.args.x)
