-- The rules of the coefficients, each one test that the checker computes over the whole table.
use Rattle.std.specs.Prelude.{◌≡◌, ◌*◌, ◌%◌, ◌^◌, Bool, true, false, ◌&&◌, List, [], ◌∷◌, map, reverse, ◌==◌}
use Rattle.std.specs.Prelude.{refl, Float}
use Rattle.std.specs.Float.{nan, inf, fin}
use Rattle.std.specs.Float.Ieee.{up, down, lt, eq, neg, of_bits}
use Rattle.law_lists.specs.Every.{every}
use Rattle.law_rounding.specs.Floats.{f0, f1}
use Rattle.index_coefficients.specs.Coefficients.{coefficients, coefficient_of}

-- each number is above the one before it
unfoldable pub rising_from : Float → List Float → Bool
rising_from x [] = true
rising_from x (y ∷ ys) = lt x y && rising_from y ys

-- two lists hold equal numbers, place by place
unfoldable pub equal : List Float → List Float → Bool
equal [] [] = true
equal [] (y ∷ ys) = false
equal (x ∷ xs) [] = false
equal (x ∷ xs) (y ∷ ys) = eq x y && equal xs ys

-- a multiple of 2 ^ -26
unfoldable pub multiple : Float → Bool
multiple nan = false
multiple (inf s) = false
multiple (fin s m e) = m * up e * 2 ^ 26 % down e == 0

-- below 1 in size
unfoldable pub small : Float → Bool
small x = lt (neg f1) x && lt x f1

-- index 8 is 0
pub middle_is_zero : coefficient_of 8 ≡ f0
unfolding coefficient_of
middle_is_zero = refl

-- the table is odd about it: read backwards it is its own negative
pub coefficients_odd : equal (reverse coefficients) (map neg coefficients) ≡ true
unfolding equal eq neg of_bits
coefficients_odd = refl

-- every coefficient is a multiple of 2 ^ -26 and below 1 in size
pub coefficients_in_units : every multiple coefficients && every small coefficients ≡ true
unfolding multiple small lt neg of_bits
coefficients_in_units = refl

-- from -1 to 1 the table rises
pub coefficients_rise : rising_from (neg f1) coefficients ≡ true
unfolding rising_from lt neg of_bits
coefficients_rise = refl
