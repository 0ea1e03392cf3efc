-- What is left over of the bytes read after the whole units of a size among them.
use Rattle.std.specs.Prelude.{◌≡◌, List, ℕ, ◌-◌, ◌*◌, ◌/◌, take, drop}

-- how many of the first bytes read are whole units
abbrev pub whole_bytes : ℕ → ℕ → ℕ
whole_bytes size read = size * (read / size)

-- what is left of those bytes is held at the start
pub record KeepsRest (size read : ℕ) (found left : List ℕ) (held : ℕ) : Type 0 where
  pub so_many : held ≡ read - whole_bytes size read
  pub stays : take held left ≡ take held (drop (whole_bytes size read) found)
