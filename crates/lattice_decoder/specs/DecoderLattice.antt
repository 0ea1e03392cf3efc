-- docs/RULES.md, "Lattices", the decoder's: one line, with eight states. Every product, sum and difference is an f32's and rounds once.
use Rattle.std.specs.Prelude.{List, ℕ, zero, suc, get_or, set, refl, Float}
use Rattle.std.specs.Float.{nan}
use Rattle.law_rounding.specs.Floats.{◌⊕◌, ◌⊖◌, ◌⊗◌}
use Rattle.lattice_lines.specs.Lattice.{Idle}
use Rattle.lattice_lines.specs.declared.Passed.{Passed}

-- a line on its way, t, with the states as they are
abbrev pub passing : Float → List Float → Passed
passing t states = record { t = t; states = states }

-- one stage: a new t, and from it the state of the next stage up
unfoldable pub stage_down : Float → ℕ → Passed → Passed
stage_down q k p =
    let old = get_or p.states k nan in
    let t = p.t ⊖ q ⊗ old in
    passing t (set p.states (suc k) (q ⊗ t ⊕ old))

-- downwards: the stages below a number
unfoldable pub stages_below : List Float → ℕ → Passed → Passed
stages_below q zero p = p
stages_below q (suc k) p = stages_below q k (stage_down (get_or q k nan) k p)

-- From the last stage, which has no state to set, down to the first; then t is the line and the first state. A filter of order 0 does nothing.
unfoldable pub line_decoded : List Float → ℕ → List Float → Float → Passed
line_decoded q zero states line = passing line states
line_decoded q (suc k) states line =
    let p = stages_below q k (passing (line ⊖ get_or q k nan ⊗ get_or states k nan) states) in
    passing p.t (set p.states 0 p.t)

-- the law of a lattice
pub decoder_idle : Idle line_decoded
unfolding line_decoded
decoder_idle q states line = refl
