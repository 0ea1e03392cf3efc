-- A kept block stands in what comes out, at its new number, byte for byte as it stood in the damaged file but for its number and its sums. So do its
-- records.
use mathlib.Core.Path.{◌≡◌, refl, sym, ◌∙◌, ap, subst}
use mathlib.Core.List.{List, [], ◌∷◌, ◌++◌}
use Prim.Native.Nat.{ℕ, zero, suc, ◌+◌, ◌-◌, ◌*◌, ◌≤◌, ◌<◌}
use native.Mathlib.Omega.{arith}
use lib.ListN.{length, get_or, take, drop, length-take, length-drop}
use lib.Seq.{take_at, drop-drop}
use Rattle.law_lists.specs.Places.{part}
use Rattle.law_lists.specs.Portions.{portions}
use Rattle.law_lists.proofs.Parts.{part_of_first, part_of_rest}
use Rattle.law_lists.proofs.Portions.{portions_after}
use Rattle.check_verdicts.specs.Verdicts.{Verdict, accepted, refused}
use Rattle.block_numbers.specs.Words.{word_bytes}
use Rattle.block_parts.specs.Parts.{count_in, sum_bytes}
use Rattle.block_parts.proofs.Counted.{few_records}
use Rattle.file_narration.proofs.OnlyBlock.{AreBytes}
use Rattle.block_kept.specs.Kept.{kept_verdict}
use Rattle.block_rescue.specs.Rescue.{renumbered}
use Rattle.block_rescue.proofs.Rescue.{renumbered_length}
use Rattle.file_rescued.specs.Rescues.{kept_of, numbered_from, Rescued, rescue_of}
use Rattle.file_rescued.proofs.Portioned.{file_portions, portion_at}
use Rattle.file_rescued.proofs.KeptBlocks.{KeptBlock, AllKept, kept_first, left_first, kept_all}
use Rattle.file_rescued.proofs.MendedRead.{few_kept}
use Rattle.file_rescued.proofs.Accounted.{block_at, new_number, enough_portions}

-- ---- among the kept ones

none_before : length (kept_of []) ≡ 0
unfolding kept_of
none_before = refl

-- the block at a place is the one of its new number among those kept
kept_at : (ps : List (List ℕ)) (k : ℕ) (records : List ℕ) → k < length ps → kept_verdict (get_or ps k []) ≡ accepted records
    → (length (kept_of (take k ps)) < length (kept_of ps)) × (get_or (kept_of ps) (length (kept_of (take k ps))) [] ≡ get_or ps k [])
kept_at [] k records h e = absurd (omega arith)
kept_at (p ∷ ps) zero records h e =
    let first = kept_first p ps records e in
    (omega (arith, ap length first, none_before), ap (λ (n : ℕ). get_or (kept_of (p ∷ ps)) n []) none_before ∙ ap (λ (bs : List (List ℕ)). get_or bs 0 []) first)
kept_at (p ∷ ps) (suc k) records h e = by (kept_verdict p) refl (kept_at ps k records (omega arith) e)
  where
    by : (v : Verdict (List ℕ)) → kept_verdict p ≡ v → (length (kept_of (take k ps)) < length (kept_of ps)) × (get_or (kept_of ps) (length (kept_of (take k ps))) [] ≡ get_or ps k [])
        → (length (kept_of (p ∷ take k ps)) < length (kept_of (p ∷ ps))) × (get_or (kept_of (p ∷ ps)) (length (kept_of (p ∷ take k ps))) [] ≡ get_or ps k [])
    by (accepted its) f rest =
        let all = kept_first p ps its f in
        let some = ap length (kept_first p (take k ps) its f) in
        (omega (arith, ap length all, some, rest.0), ap (λ (n : ℕ). get_or (kept_of (p ∷ ps)) n []) some ∙ ap (λ (bs : List (List ℕ)). get_or bs (suc (length (kept_of (take k ps)))) []) all ∙ rest.1)
    by (refused fault) f rest =
        let all = left_first p ps fault f in
        let some = ap length (left_first p (take k ps) fault f) in
        (omega (arith, ap length all, some, rest.0), ap (λ (n : ℕ). get_or (kept_of (p ∷ ps)) n []) some ∙ ap (λ (bs : List (List ℕ)). get_or bs (length (kept_of (take k ps))) []) all ∙ rest.1)

-- ---- in what comes out

module _ (number : ℕ) (block : List ℕ) (is : length block ≡ 512) where
  kept_length : length (part 2 508 block) ≡ 506
  kept_length = omega (arith, length-take 506 (drop 2 block), length-drop 2 block)

  kept_bytes : part 2 508 (renumbered number block) ≡ part 2 508 block
  unfolding renumbered
  kept_bytes = take_at (part 2 508 block) (sum_bytes (word_bytes number ++ part 2 508 block)) 506 kept_length

-- its portions are the blocks, renumbered
mended_at : (blocks : List (List ℕ)) (number k : ℕ) → AllKept blocks → k < length blocks
    → get_or (portions 512 (numbered_from number blocks)) k [] ≡ renumbered (number + k) (get_or blocks k [])
unfolding numbered_from
mended_at [] number k all h = absurd (omega arith)
mended_at (b ∷ bs) number zero all h =
    let same : number ≡ number + 0 = omega arith in
    ap (λ (ps : List (List ℕ)). get_or ps 0 []) (portions_after 512 (omega arith) (renumbered number b) (numbered_from (suc number) bs) (renumbered_length number b all.0.is))
    ∙ ap (λ (n : ℕ). renumbered n b) same
mended_at (b ∷ bs) number (suc k) all h =
    let on : suc number + k ≡ number + suc k = omega arith in
    ap (λ (ps : List (List ℕ)). get_or ps (suc k) []) (portions_after 512 (omega arith) (renumbered number b) (numbered_from (suc number) bs) (renumbered_length number b all.0.is))
    ∙ mended_at bs (suc number) k all.1 (omega arith)
    ∙ ap (λ (n : ℕ). renumbered n (get_or bs k [])) on

kept_member : (blocks : List (List ℕ)) (k : ℕ) → AllKept blocks → k < length blocks → KeptBlock (get_or blocks k [])
kept_member [] k all h = absurd (omega arith)
kept_member (b ∷ bs) zero all h = all.0
kept_member (b ∷ bs) (suc k) all h = kept_member bs k all.1 (omega arith)

-- a part of a block, in the bytes of its file
in_file : (start stop place : ℕ) (file : List ℕ) → stop ≤ 512 → part start stop (block_at file place) ≡ part (512 * place + start) (512 * place + stop) file
in_file start stop place file h =
    let size : 512 * place + 512 - 512 * place ≡ 512 = omega arith in
    let many : stop - start ≡ 512 * place + stop - (512 * place + start) = omega arith in
    ap (λ (n : ℕ). part start stop (take n (drop (512 * place) file))) size
    ∙ part_of_first start stop 512 (drop (512 * place) file) h
    ∙ ap (take (stop - start)) (drop-drop start (512 * place) file)
    ∙ ap (λ (n : ℕ). take n (drop (512 * place + start) file)) many

-- the records of a block, among its bytes between number and sums
within : (place size : ℕ) (file : List ℕ) → size ≤ 480
    → part 6 (6 + size) (part (512 * place + 2) (512 * place + 508) file) ≡ part (512 * place + 8) (512 * place + 8 + size) file
within place size file h =
    let rest = 512 * place + 2 in
    let many : 512 * place + 508 - rest ≡ 506 = omega arith in
    let start : 512 * place + 8 - rest ≡ 6 = omega arith in
    let stop : 512 * place + 8 + size - rest ≡ 6 + size = omega arith in
    ap (λ (n : ℕ). part 6 (6 + size) (take n (drop rest file))) many
    ∙ part_of_first 6 (6 + size) 506 (drop rest file) (omega arith)
    ∙ sym (ap (λ (a : ℕ). part a (512 * place + 8 + size - rest) (drop rest file)) start ∙ ap (λ (b : ℕ). part 6 b (drop rest file)) stop)
    ∙ part_of_rest rest (512 * place + 8) (512 * place + 8 + size) file (omega arith)

module _ (file : List ℕ) (r : Rescued) (bytes : AreBytes file) (e : rescue_of file ≡ accepted r) (place : ℕ) (there : 512 * place + 512 ≤ length file) (records : List ℕ)
    (kept : kept_verdict (block_at file place) ≡ accepted records) where
  -- the block at its new number is the one at its place, renumbered
  pub stands_at : KeptBlock (block_at file place) × (block_at r.mended (new_number file place) ≡ renumbered (new_number file place) (block_at file place))
  stands_at =
      let ps = portions 512 file in
      let n = new_number file place in
      let its = portion_at 512 (omega arith) place file in
      let found = kept_at ps place records (enough_portions place file there) (ap kept_verdict its ∙ kept) in
      let all = kept_all ps (file_portions file bytes) in
      let same : get_or (kept_of ps) n [] ≡ block_at file place = found.1 ∙ its in
      let from-0 : 0 + n ≡ n = omega arith in (
        subst KeptBlock same (kept_member (kept_of ps) n all found.0),
        ap (λ (s : Rescued). block_at s.mended n) (few_kept file r e).1
            ∙ sym (portion_at 512 (omega arith) n (numbered_from 0 (kept_of ps)))
            ∙ mended_at (kept_of ps) 0 n all found.0
            ∙ ap (λ (k : ℕ). renumbered k (get_or (kept_of ps) n [])) from-0
            ∙ ap (renumbered n) same,
      )

  pub bytes_stay : part (512 * new_number file place + 2) (512 * new_number file place + 508) r.mended ≡ part (512 * place + 2) (512 * place + 508) file
  bytes_stay =
      let n = new_number file place in
      sym (in_file 2 508 n r.mended (omega arith))
      ∙ ap (part 2 508) stands_at.1
      ∙ kept_bytes n (block_at file place) stands_at.0.is
      ∙ in_file 2 508 place file (omega arith)

  -- and among them its records, as many as it counts
  pub records_stay :
      let n = new_number file place in
      let size = 24 * count_in (block_at file place) in
      part (512 * n + 8) (512 * n + 8 + size) r.mended ≡ part (512 * place + 8) (512 * place + 8 + size) file
  records_stay =
      let n = new_number file place in
      let count = count_in (block_at file place) in
      let few = few_records (block_at file place) stands_at.0.taken.header in
      sym (within n (24 * count) r.mended (omega arith)) ∙ ap (part 6 (6 + 24 * count)) bytes_stay ∙ within place (24 * count) file (omega arith)
