-- How many records the blocks in some bytes have, each by its own count.
use Rattle.std.specs.Prelude.{◌≡◌, List, map, ℕ, ◌*◌, ◌≤◌, length}
use Rattle.law_lists.specs.Counted.{total}
use Rattle.law_lists.specs.Portions.{portions}
use Rattle.block_parts.specs.Parts.{count_in}

abbrev pub record_count : List ℕ → ℕ
record_count bytes = total (map count_in (portions 512 bytes))

-- so many, and no more than a byte can say for each block
pub record CountsRecords (bytes : List ℕ) (result : ℕ) : Type 0 where
  pub so_many : result ≡ record_count bytes
  pub few : result ≤ 255 * length (portions 512 bytes)
