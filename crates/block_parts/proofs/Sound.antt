-- Laws of whole sound records: the first of them and the rest.
use mathlib.Core.Path.{◌≡◌, ap}
use mathlib.Core.Bool.{true, ◌&&◌}
use mathlib.Core.List.{List, []}
use Prim.Native.Nat.{ℕ, ◌<◌}
use native.Mathlib.Omega.{arith}
use lib.ListN.{length, take, drop}
use Rattle.law_lists.specs.Every.{every}
use Rattle.law_lists.proofs.Portions.{portions_first, portions_none}
use Rattle.block_record.specs.RecordBytes.{sound_record}
use Rattle.block_parts.specs.Parts.{sound_records}

pub sound_none : sound_records [] ≡ true
unfolding sound_records
sound_none = ap (every sound_record) (portions_none 24)

pub sound_first : (bytes : List ℕ) → 0 < length bytes → sound_records bytes ≡ sound_record (take 24 bytes) && sound_records (drop 24 bytes)
unfolding sound_records
sound_first bytes h = ap (every sound_record) (portions_first 24 (omega arith) bytes h)
