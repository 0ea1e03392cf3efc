-- What the contracts of inner functions cite: the sums of a subband on the way. No public promise rests on these names.
use Rattle.std.specs.Prelude.{cond, List, ℕ, ◌+◌, ◌-◌, min, ltb, Float, length}
use Rattle.law_rounding.specs.Floats.{◌⊕◌, ◌⊗◌}
use Rattle.law_lists.specs.Places.{at, tab}
use Rattle.shape_sums.specs.LagSums.{products}

-- the sum of lag k, after a line has added its product where k is below m
abbrev pub added_cell : List Float → List Float → ℕ → ℕ → ℕ → Float
added_cell sums xs n m k = cond (ltb k m) (at sums k ⊕ at xs n ⊗ at xs (n + k)) (at sums k)

-- the nine sums once the first n lines have added theirs
unfoldable pub sums_to : List Float → ℕ → List Float
sums_to xs n = tab (λ k. products xs k (min n (length xs - k))) 9
