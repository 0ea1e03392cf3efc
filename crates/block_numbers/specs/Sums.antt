-- docs/RULES.md, "Block files (C-11)", the two sums modulo 65521: of the bytes, and of each byte times its weight, 508 less its place.
use Rattle.std.specs.Prelude.{List, [], ◌∷◌, ℕ, suc, ◌+◌, ◌-◌, ◌*◌, ◌%◌}
use Rattle.law_lists.specs.Counted.{total}
use Rattle.block_numbers.specs.declared.Sums.{Sums}

-- each byte times 508 less its place; `place` is the first one's
unfoldable pub weighted_from : ℕ → List ℕ → ℕ
weighted_from place [] = 0
weighted_from place (byte ∷ bytes) = (508 - place) * byte + weighted_from (suc place) bytes

unfoldable pub sums_of : List ℕ → Sums
sums_of bytes = record { plain = total bytes % 65521; weighted = weighted_from 0 bytes % 65521 }
