-- docs/RULES.md, "Block files (C-11)", each u16 low byte first: a number below 65,536 as two bytes, and two bytes as a number.
use Rattle.std.specs.Prelude.{List, [], ◌∷◌, ℕ, suc, ◌+◌, ◌*◌, ◌/◌, ◌%◌, get_or}

abbrev pub word_of : ℕ → ℕ → ℕ
word_of low high = low + 256 * high

-- the number that stands at a place of some bytes
abbrev pub word_at : ℕ → List ℕ → ℕ
word_at place bytes = word_of (get_or bytes place 0) (get_or bytes (suc place) 0)

-- a number as it is written
abbrev pub word_bytes : ℕ → List ℕ
word_bytes n = n % 256 ∷ n / 256 ∷ []
