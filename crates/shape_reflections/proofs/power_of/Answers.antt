-- A bit more goes on from the next of them, and once no bit is left the product is the power.
use mathlib.Core.Path.{◌≡◌, refl, sym, ◌∙◌, ap}
use mathlib.Core.Bool.{Bool, true, false, cond}
use Prim.Native.Nat.{ℕ, suc, ◌+◌, ◌-◌, ◌/◌, ◌%◌, ◌<◌, ◌≤◌}
use native.Mathlib.Omega.{arith}
use borrow.Author.Tests.{eq-eqb, ne_eqb}
use lib.Dec.{eqb}
use lib.Ieee.{Float}
use Rattle.law_rounding.specs.Floats.{◌⊗◌}
use Rattle.shape_reflections.specs.Reflections.{power, power_from}
use Rattle.shape_reflections.proofs.power_of.Goals as goal
use Rattle.shape_reflections.proofs.power_of.Goals.{then-rest-eq1, else-rest-eq1}

-- one bit more
bit_more : (n : ℕ) (b : Bool) (product square : Float) (rest : ℕ) → n < 4 → eqb (rest % 2) 1 ≡ b
    → power_from (4 - n) product square rest ≡ power_from (4 - (n + 1)) (cond b (product ⊗ square) product) (square ⊗ square) (rest / 2)
unfolding power_from
bit_more n b product square rest h e =
    let left : 4 - n ≡ suc (4 - (n + 1)) = omega arith in
    rw left (ap (λ (b : Bool). power_from (4 - (n + 1)) (cond b (product ⊗ square) product) (square ⊗ square) (rest / 2)) e)

none_left : (n : ℕ) (product square : Float) (rest : ℕ) → 4 ≤ n → power_from (4 - n) product square rest ≡ product
unfolding power_from
none_left n product square rest h = let left : 4 - n ≡ 0 = omega arith in rw left

pub loop-init : goal.loop-init
unfolding power
loop-init c = refl

pub loop-preserved : goal.loop-preserved
loop-preserved c =
    let l = c.loop in
    elim c.if-rest-eq1.branch [
      | then-rest-eq1 w ↦ l.invariant ∙ bit_more l.counter true l.product l.square l.rest (omega arith) (eq-eqb _ _ w.if-rest-eq1.true) ∙ rw w.product-is
      | else-rest-eq1 w ↦ l.invariant ∙ bit_more l.counter false l.product l.square l.rest (omega arith) (ne_eqb _ _ w.if-rest-eq1.false) ∙ rw w.product-is
    ]

pub returns : goal.returns
returns c =
    let l = c.loop in
    sym (l.invariant ∙ none_left l.counter l.product l.square l.rest (omega arith))
