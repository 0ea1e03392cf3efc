-- Lists place by place: the members from a place to another, the f32 at a place, and a list that is written by what stands at each.
use Rattle.std.specs.Prelude.{List, [], ◌∷◌, ◌++◌, ℕ, zero, suc, ◌-◌, get_or, take, drop, Float}
use Rattle.std.specs.Float.{nan}

-- the members from a start to a stop
abbrev pub part : {A : Type 0} → ℕ → ℕ → List A → List A
part start stop xs = take (stop - start) (drop start xs)

-- the number at a place
abbrev pub at : List Float → ℕ → Float
at xs n = get_or xs n nan

-- the first n values of f, in order
unfoldable pub tab : (ℕ → Float) → ℕ → List Float
tab f zero = []
tab f (suc n) = tab f n ++ (f n ∷ [])
