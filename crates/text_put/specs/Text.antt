-- Text in ASCII.
use Rattle.std.specs.Prelude.{cond, List, [], ◌∷◌, ◌++◌, ℕ, zero, suc, ◌+◌, ◌/◌, ◌%◌, ltb, take}
use Prim.Native.Char.{code}
use Prim.Native.String.{String, [] as []ˢ, ◌∷◌ as ◌∷ˢ◌}

-- the codes of a text
abbrev pub ascii : String → List ℕ
ascii []ˢ = []
ascii (c ∷ˢ text) = code c ∷ ascii text

-- a number in decimal, with no zeros in front; so many digits are enough
unfoldable pub decimal_in : ℕ → ℕ → List ℕ
decimal_in zero n = []
decimal_in (suc digits) n = cond (ltb n 10) ((48 + n) ∷ []) (decimal_in digits (n / 10) ++ ((48 + n % 10) ∷ []))

-- below 2 ^ 64: twenty are
unfoldable pub decimal : ℕ → List ℕ
unfolding decimal_in
decimal n = decimal_in 20 n

-- a text after some bytes, where there is room for so many in all: what is beyond is left out
unfoldable pub after : ℕ → List ℕ → List ℕ → List ℕ
after room bytes text = take room (bytes ++ text)
