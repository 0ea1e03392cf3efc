-- Every coefficient is a whole number of 2^-26 and at most 1 in size: one test over the table, and the coefficient past it.
use Rattle.std.specs.Prelude.{◌≡◌, ℕ, true, T}
use mathlib.Core.Path.{refl, sym, subst}
use lib.Ieee.{of_bits}
use Rattle.law_rounding.proofs.Factors.{Factor, is_factor, factor}
use Rattle.law_lists.specs.Every.{every}
use Rattle.law_rounding.specs.Floats.{f0}
use Rattle.index_coefficients.specs.Coefficients.{coefficients, coefficient_of}
use Rattle.law_lists.proofs.Every.{every_at}

all_factors : every is_factor coefficients ≡ true
unfolding is_factor of_bits
all_factors = refl

zero_factor : is_factor f0 ≡ true
unfolding is_factor of_bits
zero_factor = refl

pub coefficient_factor : (i : ℕ) → Factor (coefficient_of i)
unfolding coefficient_of
coefficient_factor i = factor (coefficient_of i) (subst T (sym (every_at is_factor coefficients all_factors f0 zero_factor i)) tt)
