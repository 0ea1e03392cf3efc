-- What comes out of a rescue is read whole, and gives the records of the kept blocks, in their order.
use mathlib.Core.Path.{◌≡◌, sym, ◌∙◌, ap}
use mathlib.Core.Bool.{Bool}
use mathlib.Core.List.{List, map}
use Prim.Native.Nat.{ℕ, ◌≤◌, ◌<◌}
use native.Mathlib.Decide.{dec_lt}
use native.Mathlib.Omega.{arith}
use borrow.Author.Tests.{lt-ltb, le-ltb}
use lib.ListN.{length, length-map}
use Rattle.law_lists.specs.Portions.{portions}
use Rattle.check_verdicts.specs.Verdicts.{numbered, accepted, refused, check}
use Rattle.check_verdicts.proofs.Verdicts.{not_accepted}
use Rattle.block_parts.specs.Parts.{records_in}
use Rattle.file_narration.specs.Files.{whole, reading}
use Rattle.file_narration.proofs.Cuts.{joined}
use Rattle.file_narration.proofs.OnlyBlock.{AreBytes}
use Rattle.file_narration.proofs.ReadBack.{any_count}
use Rattle.file_rescued.specs.Rescues.{kept_of, Rescued, rescued, rescue_of}
use Rattle.file_rescued.proofs.Portioned.{file_portions}
use Rattle.file_rescued.proofs.KeptBlocks.{kept_all, all_holdable, numbered_blocks}

-- the blocks of a file that are kept
abbrev pub kept_in : List ℕ → List (List ℕ)
kept_in file = kept_of (portions 512 file)

-- ---- the call

pub rescued_if : (file : List ℕ) → length (kept_in file) ≤ 65536 → rescue_of file ≡ accepted (rescued file)
unfolding rescue_of
rescued_if file few = ap (λ (b : Bool). check 9 b (accepted (rescued file))) (le-ltb 65536 (length (kept_in file)) few)

-- 9, and nothing else, where there are more
pub refused_if : (file : List ℕ) → 65536 < length (kept_in file) → rescue_of file ≡ refused (numbered 9)
unfolding rescue_of
refused_if file many = ap (λ (b : Bool). check 9 b (accepted (rescued file))) (lt-ltb 65536 (length (kept_in file)) many)

pub few_kept : (file : List ℕ) (r : Rescued) → rescue_of file ≡ accepted r → (length (kept_in file) ≤ 65536) × (r ≡ rescued file)
few_kept file r e = elim (dec_lt 65536 (length (kept_in file))) [
  | yes many ↦ not_accepted (sym (refused_if file many) ∙ e)
  | no few ↦
      let same : accepted (rescued file) ≡ accepted r = sym (rescued_if file (omega arith)) ∙ e in
      (omega arith, cc)
]

-- ---- what comes out

mended_read : (file : List ℕ) → AreBytes file → length (kept_in file) ≤ 65536 → reading (rescued file).mended ≡ record { given = joined (map records_in (kept_in file)); end = whole }
mended_read file bytes few =
    let all = kept_all (portions 512 file) (file_portions file bytes) in
    ap reading (numbered_blocks 0 (kept_in file) all)
    ∙ any_count 0 (map records_in (kept_in file)) (omega (arith, length-map (kept_in file) records_in)) (all_holdable (kept_in file) all)

pub reads_mended : (file : List ℕ) (r : Rescued) → AreBytes file → rescue_of file ≡ accepted r
    → reading r.mended ≡ record { given = joined (map records_in (kept_of (portions 512 file))); end = whole }
reads_mended file r bytes e =
    let its = few_kept file r e in
    ap (λ (s : Rescued). reading s.mended) its.1 ∙ mended_read file bytes its.0
