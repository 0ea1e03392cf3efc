-- docs/RULES.md, "Analysis": the sums of a subband at lags 0 to 8.
use Rattle.std.specs.Prelude.{List, ℕ, zero, suc, ◌+◌, ◌-◌, length, Float}
use Rattle.law_rounding.specs.Floats.{◌⊕◌, ◌⊗◌, f0}
use Rattle.law_lists.specs.Places.{at}

-- the sum of the first m products of lines k apart, in line order
unfoldable pub products : List Float → ℕ → ℕ → Float
products xs k zero = f0
products xs k (suc m) = products xs k m ⊕ at xs m ⊗ at xs (m + k)

-- ac: the products of lines k apart, inside a subband. At lag 0 it is es, the sum of the squares.
unfoldable pub lag_sum : List Float → ℕ → Float
lag_sum xs k = products xs k (length xs - k)
