-- Laws of the count that stands in a block: a right header keeps it from 1 to 20, and the records are as many as it says.
use mathlib.Core.Path.{◌≡◌}
use mathlib.Core.Bool.{true}
use mathlib.Core.List.{List}
use Prim.Native.Nat.{ℕ, ◌*◌, ◌≤◌}
use native.Mathlib.Omega.{arith}
use borrow.Author.Tests.{leb-true}
use lib.Dec.{leb}
use lib.ListN.{length, length-take, length-drop}
use Rattle.law_lists.proofs.Every.{and_left, and_right}
use Rattle.block_parts.specs.Parts.{count_of, count_in, records_in, header_right}

-- a right header counts 1 to 20 records
pub few_records : (block : List ℕ) → header_right block ≡ true → count_in block ≤ 20
unfolding header_right
few_records block e = leb-true (count_in block) 20 (and_right (leb 1 (count_in block)) (leb (count_in block) 20) (and_left _ _ (and_left _ _ e)))

pub some_records : (block : List ℕ) → header_right block ≡ true → 1 ≤ count_in block
unfolding header_right
some_records block e = leb-true 1 (count_in block) (and_left (leb 1 (count_in block)) (leb (count_in block) 20) (and_left _ _ (and_left _ _ e)))

-- the records are as many as it counts
pub records_length : (block : List ℕ) → 512 ≤ length block → count_in block ≤ 20 → length (records_in block) ≡ 24 * count_in block
records_length block long few = simp (length-take, length-drop) (omega arith)

pub its_count : (block : List ℕ) → 512 ≤ length block → count_in block ≤ 20 → count_in block ≡ count_of (records_in block)
its_count block long few = omega (arith, records_length block long few)
