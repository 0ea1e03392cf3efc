-- Where the report is empty the reader accepts the file: with `unchanged`, the report is empty of just such files. And such a file gives as many records
-- as its blocks have by their own counts, which is how a rescue counts those of the file that it makes.
use mathlib.Core.Path.{◌≡◌, refl, sym, ◌∙◌, ap, subst}
use mathlib.Core.Bool.{Bool, true, false, cond}
use mathlib.Core.List.{List, [], ◌∷◌, ◌++◌, map}
use Prim.Native.Nat.{ℕ, suc, ◌+◌, ◌*◌}
use native.Mathlib.Omega.{arith}
use borrow.Author.Tests.{eqb-true}
use lib.Dec.{eqb}
use lib.ListN.{length, length-append}
use Rattle.law_lists.specs.Counted.{total}
use Rattle.law_lists.specs.Portions.{portions}
use Rattle.check_verdicts.specs.Verdicts.{Verdict, accepted, refused}
use Rattle.block_parts.specs.Parts.{count_in, number_in, records_in, block_bytes}
use Rattle.file_narration.specs.Files.{whole, Outcome, reading}
use Rattle.file_narration.proofs.Cuts.{joined, portions_joined}
use Rattle.file_narration.proofs.OnlyBlock.{AreBytes, only_block}
use Rattle.block_kept.specs.Kept.{kept_verdict}
use Rattle.block_rescue.specs.Rescue.{renumbered}
use Rattle.file_rescued.specs.Rescues.{moved, kept_of, numbered_from, report_from, Rescued, rescue_of}
use Rattle.file_rescued.proofs.Portioned.{Portion, AllPortions, file_portions}
use Rattle.file_rescued.proofs.KeptBlocks.{AllKept, KeptBlock, kept_is, kept_all, kept_first, its_length, renumbered_block}
use Rattle.file_rescued.proofs.Reports.{report_kept, report_left}
use Rattle.file_rescued.proofs.MendedRead.{few_kept, reads_mended}
use Rattle.file_rescued.proofs.Untouched.{all_kept, unchanged}

not_empty : {A : Type 0} {x : A} {xs : List A} → x ∷ xs ≡ [] → ⊥
not_empty e = let z : ◌≡◌ {A = ℕ} 0 1 = omega (arith, ap length e) in absurd (omega (arith, z))

-- ---- an empty report

-- a block that keeps its number is as it was
own_number : (number : ℕ) (block : List ℕ) → KeptBlock block → number_in block ≡ number → renumbered number block ≡ block
own_number number block k e =
    renumbered_block block k number ∙ ap (λ (n : ℕ). block_bytes n (records_in block)) (sym e)
    ∙ sym (only_block (number_in block) block (records_in block) k.bytes k.is k.taken)

numbered_first : (number : ℕ) (block : List ℕ) (blocks : List (List ℕ)) → numbered_from number (block ∷ blocks) ≡ renumbered number block ++ numbered_from (suc number) blocks
unfolding numbered_from
numbered_first number block blocks = refl

-- the first portion, by whether the number that it has is its new one, and then the others
module _ (number : ℕ) (p : List ℕ) (ps : List (List ℕ)) (portion : Portion p) (others : report_from (suc number) (suc number) ps ≡ [] → numbered_from (suc number) (kept_of ps) ≡ joined ps) where
  one_kept : (records : List ℕ) → kept_verdict p ≡ accepted records → (same : Bool) → eqb (number_in p) number ≡ same
      → cond same [] (moved number (number_in p) number ∷ []) ++ report_from (suc number) (suc number) ps ≡ [] → numbered_from number (kept_of (p ∷ ps)) ≡ joined (p ∷ ps)
  one_kept records v true same said =
      ap (numbered_from number) (kept_first p ps records v) ∙ numbered_first number p (kept_of ps)
      ∙ ap (λ (l : List ℕ). l ++ numbered_from (suc number) (kept_of ps)) (own_number number p (kept_is p records portion v) (eqb-true (number_in p) number same))
      ∙ ap (λ (l : List ℕ). p ++ l) (others said)
  one_kept records v false same said = absurd (not_empty said)

  one_said : (v : Verdict (List ℕ)) → kept_verdict p ≡ v → report_from number number (p ∷ ps) ≡ [] → numbered_from number (kept_of (p ∷ ps)) ≡ joined (p ∷ ps)
  one_said (accepted records) v e = one_kept records v (eqb (number_in p) number) refl (sym (report_kept number number p ps records v) ∙ e)
  one_said (refused fault) v e = absurd (not_empty (sym (report_left number number p ps fault v) ∙ e))

-- portions of which nothing is said come out as they were
nothing_said : (number : ℕ) (ps : List (List ℕ)) → AllPortions ps → report_from number number ps ≡ [] → numbered_from number (kept_of ps) ≡ joined ps
unfolding kept_of numbered_from
nothing_said number [] all e = refl
nothing_said number (p ∷ ps) all e = one_said number p ps all.0 (λ none. nothing_said (suc number) ps all.1 none) (kept_verdict p) refl e

pub sound_only : (file : List ℕ) (r : Rescued) → AreBytes file → rescue_of file ≡ accepted r → r.report ≡ [] → (reading file).end ≡ whole
sound_only file r bytes e silent =
    let its = (few_kept file r e).1 in
    let same : r.mended ≡ file =
    ap (λ (s : Rescued). s.mended) its ∙ nothing_said 0 (portions 512 file) (file_portions file bytes) (sym (ap (λ (s : Rescued). s.report) its) ∙ silent)
    ∙ portions_joined 512 (omega arith) file
    in
    ap (λ (f : List ℕ). (reading f).end) (sym same) ∙ ap (λ (o : Outcome). o.end) (reads_mended file r bytes e)

-- ---- how many records

-- of kept blocks, as many as their own counts say together
counted_records : (blocks : List (List ℕ)) → AllKept blocks → length (joined (map records_in blocks)) ≡ 24 * total (map count_in blocks)
unfolding total
counted_records [] all = refl
counted_records (block ∷ blocks) all =
    omega (arith, length-append (records_in block) (joined (map records_in blocks)), its_length block all.0, counted_records blocks all.1)

-- a file that is read whole, as what comes out of a rescue is, gives so many records of 24 bytes
pub records_counted : (file : List ℕ) → AreBytes file → (reading file).end ≡ whole → length (reading file).given ≡ 24 * total (map count_in (portions 512 file))
records_counted file bytes e =
    let kept = all_kept file e in
    let all = subst AllKept kept (kept_all (portions 512 file) (file_portions file bytes)) in
    ap (λ (o : Outcome). length o.given) (reads_mended file (record { mended = file; report = [] }) bytes (unchanged file bytes e))
    ∙ ap (λ (blocks : List (List ℕ)). length (joined (map records_in blocks))) kept
    ∙ counted_records (portions 512 file) all
