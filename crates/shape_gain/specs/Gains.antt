-- docs/RULES.md, "Gains (C-18)": the records of a frame's two filters, and as numbers.
use Rattle.std.specs.Prelude.{Bool, false, cond, List, [], ◌∷◌, ℕ, Float}
use Rattle.law_rounding.specs.Floats.{f0, f1}
use Rattle.shape_gain.specs.declared.FilterGain.{FilterGain}
use Rattle.shape_gain.specs.declared.Gains.{Gains}

-- a filter whose band the row does not have: gain 0, damping 1, off
abbrev pub absent_gain : FilterGain
absent_gain = record { gain = f0; damping = f1; on = false }

-- gain and damping of the first filter, then of the second
abbrev pub gain_numbers : Gains → List Float
gain_numbers gains = gains.first.gain ∷ gains.first.damping ∷ gains.second.gain ∷ gains.second.damping ∷ []

-- 1 for a filter that is on, else 0
abbrev pub on_number : Bool → ℕ
on_number on = cond on 1 0

abbrev pub on_numbers : Gains → List ℕ
on_numbers gains = on_number gains.first.on ∷ on_number gains.second.on ∷ []

-- a refusal gives no other results
abbrev pub no_gain : FilterGain
no_gain = record { gain = f0; damping = f0; on = false }

abbrev pub no_gains : Gains
no_gains = record { first = no_gain; second = no_gain }
