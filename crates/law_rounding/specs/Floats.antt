-- f32 arithmetic as the definitions write it: two numbers that they name, and the four operations, each of which rounds once.
use Rattle.std.specs.Prelude.{Float}
use Rattle.std.specs.Float.Ieee.{add, sub, mul, div, of_bits}
use Rattle.std.specs.Float.{binary32}

-- +0 and 1
abbrev pub f0 : Float
f0 = of_bits binary32 0x00000000

abbrev pub f1 : Float
f1 = of_bits binary32 0x3f800000

-- f32 operations, each rounding once
infixl 60 ◌⊕◌
infixl 60 ◌⊖◌
infixl 70 ◌⊗◌
infixl 70 ◌⊘◌
abbrev pub ◌⊕◌ : Float → Float → Float
◌⊕◌ x y = add binary32 x y

abbrev pub ◌⊖◌ : Float → Float → Float
◌⊖◌ x y = sub binary32 x y

abbrev pub ◌⊗◌ : Float → Float → Float
◌⊗◌ x y = mul binary32 x y

abbrev pub ◌⊘◌ : Float → Float → Float
◌⊘◌ x y = div binary32 x y
