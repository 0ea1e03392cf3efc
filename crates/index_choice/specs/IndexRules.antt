-- The rules of the thresholds, alone and beside the coefficients: each is one test that the checker computes over the tables.
use Rattle.std.specs.Prelude.{◌≡◌, refl, Bool, true, ◌&&◌, List, [], ◌∷◌, ℕ, suc, eqb, drop, Float}
use Rattle.std.specs.Float.Ieee.{lt, le, neg, of_bits}
use Rattle.std.specs.Float.Ieee.Positive.{positive}
use Rattle.law_lists.specs.Every.{every}
use Rattle.law_rounding.specs.Floats.{f0, f1}
use Rattle.index_coefficients.specs.Coefficients.{coefficients}
use Rattle.index_coefficients.specs.CoefficientRules.{rising_from}
use Rattle.index_choice.specs.Indices.{thresholds, index_of, not_above}

-- taken in turn from two lists
unfoldable pub alternate : List Float → List Float → List Float
alternate xs [] = xs
alternate [] (y ∷ ys) = y ∷ ys
alternate (x ∷ xs) (y ∷ ys) = x ∷ y ∷ alternate xs ys

-- the indices of some numbers count up from a number
unfoldable pub count_up : ℕ → List Float → Bool
count_up i [] = true
count_up i (x ∷ xs) = eqb (index_of x) i && count_up (suc i) xs

-- thresholds are positive, rising and below 1, and each lies between its neighbouring coefficients: taken in turn, from coefficient 8 on, both tables rise
pub thresholds_between : rising_from (neg f1) (alternate (drop 8 coefficients) thresholds) ≡ true
unfolding rising_from alternate lt neg of_bits
thresholds_between = refl

-- the thresholds are finite and above 0, and each is above the one before it, so that a search may halve them
pub thresholds_positive : every positive thresholds ≡ true
unfolding of_bits
thresholds_positive = refl

pub thresholds_rise : rising_from f0 thresholds ≡ true
unfolding rising_from lt of_bits
thresholds_rise = refl

-- index and coefficient agree: the index of coefficient i is i
pub indices_agree : count_up 0 coefficients ≡ true
unfolding count_up index_of not_above le neg of_bits
indices_agree = refl
