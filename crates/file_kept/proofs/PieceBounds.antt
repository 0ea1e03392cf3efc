-- A piece has 120 blocks at most, and blocks have 255 records at most.
use mathlib.Core.List.{List}
use Prim.Native.Nat.{ℕ, ◌*◌, ◌≤◌}
use native.Mathlib.Omega.{arith}
use lib.ListN.{length}
use Rattle.law_lists.specs.Portions.{portions}
use Rattle.file_narration.proofs.Cuts.{portions_at_most}
use Rattle.file_rescued.proofs.Reports.{kept_few}
use Rattle.file_kept.specs.KeptIn.{kept_in}
use Rattle.file_kept.specs.RecordCount.{CountsRecords}

pub kept_120 : (bytes : List ℕ) → length bytes ≤ 61440 → kept_in bytes ≤ 120
kept_120 bytes few = omega (arith, kept_few (portions 512 bytes), portions_at_most 512 (omega arith) 120 bytes (omega arith))

pub records_255 : (bytes : List ℕ) (blocks records : ℕ) → length bytes ≤ 512 * blocks → CountsRecords bytes records → records ≤ 255 * blocks
records_255 bytes blocks records few counted = omega (arith, counted.few, portions_at_most 512 (omega arith) blocks bytes few)
