-- docs/RULES.md, "Lattices", the encoder's: one line, with eight states. Every product and sum is an f32's and rounds once.
use Rattle.std.specs.Prelude.{List, ℕ, zero, suc, get_or, set, refl, Float}
use Rattle.std.specs.Float.{nan}
use Rattle.law_rounding.specs.Floats.{◌⊕◌, ◌⊗◌}
use Rattle.lattice_lines.specs.Lattice.{Idle}
use Rattle.lattice_lines.specs.declared.Passed.{Passed}
use Rattle.lattice_encoder.specs.declared.Passing.{Passing}

-- one stage: t and b anew, both from the old t and the old state; the old b becomes the state
unfoldable pub stage_up : Float → ℕ → Passing → Passing
stage_up q k p =
    let old = get_or p.states k nan in
    record { t = p.t ⊕ q ⊗ old; b = q ⊗ p.t ⊕ old; states = set p.states k p.b }

-- upwards: the stages below a number
unfoldable pub stages_to : List Float → ℕ → Passing → Passing
stages_to q zero p = p
stages_to q (suc k) p = stage_up (get_or q k nan) k (stages_to q k p)

-- t and b start as the line
abbrev pub entering : Float → List Float → Passing
entering line states = record { t = line; b = line; states = states }

-- All stages but the last are full ones. The last makes no new b: its t is the line, and b becomes its state.
-- A filter of order 0 changes neither line nor state.
unfoldable pub line_encoded : List Float → ℕ → List Float → Float → Passed
line_encoded q zero states line = record { t = line; states = states }
line_encoded q (suc k) states line =
    let p = stages_to q k (entering line states) in
    record { t = p.t ⊕ get_or q k nan ⊗ get_or p.states k nan; states = set p.states k p.b }

-- the law of a lattice
pub encoder_idle : Idle line_encoded
unfolding line_encoded
encoder_idle q states line = refl
