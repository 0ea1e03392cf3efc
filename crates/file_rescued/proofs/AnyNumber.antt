-- A wrong number alone drops no block: blocks that were written under any numbers, one behind the other, are all kept, with their records in order. So
-- a gap, a block that stands there twice and blocks in the wrong order cost no other block.
use mathlib.Core.Path.{◌≡◌, refl, ◌∙◌, ap}
use mathlib.Core.List.{List, [], ◌∷◌, ◌++◌, map}
use Prim.Native.Nat.{ℕ, suc, ◌≤◌}
use native.Mathlib.Omega.{arith}
use lib.ListN.{length, length-map}
use Rattle.law_lists.specs.Portions.{portions}
use Rattle.law_lists.proofs.Portions.{portions_after, portions_none}
use Rattle.check_verdicts.specs.Verdicts.{accepted}
use Rattle.block_parts.specs.Parts.{block_bytes}
use Rattle.block_parts.proofs.Laid.{block_length}
use Rattle.file_narration.specs.Files.{blocks_from}
use Rattle.file_narration.proofs.BlockBack.{block_back}
use Rattle.file_narration.proofs.ReadBack.{Holdable}
use Rattle.block_kept.specs.Kept.{kept_verdict}
use Rattle.block_kept.proofs.Kept.{any_number}
use Rattle.file_rescued.specs.Rescues.{kept_of, numbered_from, report_from, rescue_of}
use Rattle.file_rescued.proofs.KeptBlocks.{kept_first, renumbered_written}
use Rattle.file_rescued.proofs.MendedRead.{rescued_if}

-- a block that is written: its number, and its records
pub record Written : Type 0 where
  pub number : ℕ
  pub records : List ℕ
  pub in_range : number ≤ 65535
  pub held : Holdable records

abbrev bytes_of : Written → List ℕ
bytes_of w = block_bytes w.number w.records

abbrev pub records_of : List Written → List (List ℕ)
records_of = map (λ w. w.records)

-- the file of such blocks, whatever their numbers
unfoldable pub scattered : List Written → List ℕ
scattered [] = []
scattered (w ∷ ws) = block_bytes w.number w.records ++ scattered ws

kept_written : (w : Written) → kept_verdict (bytes_of w) ≡ accepted w.records
kept_written w =
    any_number (bytes_of w) w.number w.records (block_back w.number w.records w.in_range w.held.some w.held.few w.held.sound)

its_portions : (ws : List Written) → portions 512 (scattered ws) ≡ map bytes_of ws
unfolding scattered
its_portions [] = portions_none 512
its_portions (w ∷ ws) =
    portions_after 512 (omega arith) (bytes_of w) (scattered ws) (block_length w.number w.records w.held.few)
    ∙ ap (λ (ps : List (List ℕ)). bytes_of w ∷ ps) (its_portions ws)

all_kept : (ws : List Written) → kept_of (map bytes_of ws) ≡ map bytes_of ws
unfolding kept_of
all_kept [] = refl
all_kept (w ∷ ws) = kept_first (bytes_of w) (map bytes_of ws) w.records (kept_written w) ∙ ap (λ (ps : List (List ℕ)). bytes_of w ∷ ps) (all_kept ws)

numbered_on : (number : ℕ) (ws : List Written) → numbered_from number (map bytes_of ws) ≡ blocks_from number (records_of ws)
unfolding numbered_from blocks_from
numbered_on number [] = refl
numbered_on number (w ∷ ws) =
    ap (λ (l : List ℕ). l ++ numbered_from (suc number) (map bytes_of ws)) (renumbered_written number w.number w.records w.held.few)
    ∙ ap (λ (l : List ℕ). block_bytes number w.records ++ l) (numbered_on (suc number) ws)

pub any_numbers : (ws : List Written) → length ws ≤ 65536
    → rescue_of (scattered ws) ≡ accepted (record { mended = blocks_from 0 (records_of ws); report = report_from 0 0 (portions 512 (scattered ws)) })
any_numbers ws few =
    let kept : kept_of (portions 512 (scattered ws)) ≡ map bytes_of ws = ap kept_of (its_portions ws) ∙ all_kept ws in
    rescued_if (scattered ws) (omega (arith, ap length kept, length-map ws bytes_of))
    ∙ ap (λ (l : List ℕ). accepted (record { mended = l; report = report_from 0 0 (portions 512 (scattered ws)) })) (ap (numbered_from 0) kept ∙ numbered_on 0 ws)
