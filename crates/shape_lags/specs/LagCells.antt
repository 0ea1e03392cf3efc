-- What the contracts of inner functions cite: a lag from the sums of three subbands. No public promise rests on these names.
use Rattle.std.specs.Prelude.{Bool, cond, List, ℕ, Float}
use Rattle.law_rounding.specs.Floats.{◌⊕◌, ◌⊗◌, ◌⊘◌, f0}
use Rattle.law_lists.specs.Places.{at}
use Rattle.shape_lags.specs.Autocorrelation.{where_silent, lag_window}

-- before and after the window
abbrev pub plain_cell : Bool → List Float → List Float → List Float → ℕ → Float
plain_cell silent a b c k = cond silent (where_silent k) (f0 ⊕ at a k ⊘ at a 0 ⊕ at b k ⊘ at b 0 ⊕ at c k ⊘ at c 0)

abbrev pub lag_cell : Bool → List Float → List Float → List Float → ℕ → Float
lag_cell silent a b c k = plain_cell silent a b c k ⊗ at lag_window k
