-- docs/RULES.md, "Cost": the rules of T's frequencies, each one test that the checker computes over whole tables.
use Rattle.std.specs.Prelude.{◌≡◌, refl, Bool, true, false, ◌&&◌, List, [], ◌∷◌, ℕ, ◌+◌, eqb}
use Rattle.law_lists.specs.Every.{every}
use Rattle.law_lists.specs.Counted.{total}
use Rattle.cost_frequencies.specs.Frequencies.{order_freq, order_cumfreq, coef_freq, coef_cumfreq}

-- a frequency row sums to 1024
unfoldable pub sums : List ℕ → Bool
unfolding total
sums row = eqb (total row) 1024

-- a cumulative row starts at a number and rises by the frequency before it
unfoldable pub rises : ℕ → List ℕ → List ℕ → Bool
rises start [] [] = true
rises start [] (c ∷ cs) = false
rises start (f ∷ fs) [] = false
rises start (f ∷ fs) (c ∷ cs) = eqb c start && rises (start + f) fs cs

-- the same of each row of a table, from 0
unfoldable pub all_rise : List (List ℕ) → List (List ℕ) → Bool
unfolding rises
all_rise [] [] = true
all_rise [] (c ∷ cs) = false
all_rise (f ∷ fs) [] = false
all_rise (f ∷ fs) (c ∷ cs) = rises 0 f c && all_rise fs cs

-- every frequency row sums to 1024
pub frequencies_sum : every sums order_freq && every sums coef_freq ≡ true
unfolding sums
frequencies_sum = refl

-- each number of a cumulative row is the total of the frequencies before it, from 0 on
pub cumulatives_rise : all_rise order_freq order_cumfreq && all_rise coef_freq coef_cumfreq ≡ true
unfolding all_rise
cumulatives_rise = refl
