-- A file that the reader accepts comes out of a rescue as it was, with an empty report. What comes out of any rescue is such a file: to rescue it
-- again changes nothing more.
use mathlib.Core.Path.{◌≡◌, sym, ◌∙◌, ap, subst}
use mathlib.Core.List.{List, [], ◌∷◌, ◌++◌}
use Prim.Native.Nat.{ℕ, zero, suc, ◌+◌, ◌-◌, ◌≤◌, ◌<◌}
use native.Mathlib.Decide.{dec_lt}
use native.Mathlib.Omega.{arith}
use lib.ListN.{length, get_or, take, drop, length-take, length-drop, get_or-append}
use lib.Seq.{get_or-append-add}
use Rattle.law_lists.specs.Places.{part}
use Rattle.law_lists.specs.Portions.{portions}
use Rattle.law_lists.proofs.Portions.{portions_first, portions_none}
use Rattle.check_verdicts.specs.Verdicts.{accepted}
use Rattle.block_numbers.specs.Words.{word_bytes}
use Rattle.block_numbers.specs.Sums.{sums_of}
use Rattle.block_parts.specs.Parts.{records_in, sum_bytes}
use Rattle.block_check.specs.Blocks.{read_verdict}
use Rattle.block_check.proofs.Verdicts.{AcceptedBlock, all_right}
use Rattle.file_narration.specs.Files.{whole, Outcome, outcome_from, reading}
use Rattle.file_narration.proofs.Cuts.{no_members}
use Rattle.file_narration.proofs.OnlyBlock.{AreBytes, first_whole, first_accepted, first_bytes, rest_bytes, only_file}
use Rattle.block_kept.proofs.Kept.{any_number}
use Rattle.block_rescue.specs.Rescue.{renumbered}
use Rattle.file_rescued.specs.Rescues.{Entry, kept_of, numbered_from, entries_by, report_from, Rescued, rescue_of}
use Rattle.file_rescued.proofs.Portioned.{file_portions}
use Rattle.file_rescued.proofs.KeptBlocks.{AllKept, kept_first, kept_all, numbered_blocks}
use Rattle.file_rescued.proofs.Reports.{report_kept}
use Rattle.file_rescued.proofs.MendedRead.{kept_in, rescued_if, few_kept, reads_mended}

-- ---- a file that is read whole

-- from this number on: all of its blocks are kept, nothing is reported, and there are no more than there may be
record Sound (number : ℕ) (file : List ℕ) : Type 0 where
  pub all : kept_of (portions 512 file) ≡ portions 512 file
  pub none : report_from number number (portions 512 file) ≡ []
  pub few : number + length (portions 512 file) ≤ 65536

sound_empty : (number : ℕ) (file : List ℕ) → number ≤ 65536 → length file ≡ 0 → Sound number file
unfolding kept_of report_from
sound_empty number file few h =
    let empty = ap (portions 512) (no_members file h) ∙ portions_none 512 in
    record { all = ap kept_of empty ∙ sym empty; none = ap (report_from number number) empty; few = omega (arith, ap length empty) }

sound_first : (number : ℕ) (file records : List ℕ) → 0 < length file → AcceptedBlock number (take 512 file) records → Sound (suc number) (drop 512 file) → Sound number file
sound_first number file records there a rest =
    let block = take 512 file in
    let others = portions 512 (drop 512 file) in
    let cut = portions_first 512 (omega arith) file there in
    let is : length block ≡ 512 = omega (arith, a.long, length-take 512 file) in
    let kept = any_number block number (records_in block) (all_right number block is a.in_range a.sums a.header a.right a.fill a.sound) in
    let own : List Entry = entries_by number number block (accepted (records_in block)) in
    let silent : own ≡ [] = rw a.right in
    record {
      all = ap kept_of cut ∙ kept_first block others (records_in block) kept ∙ ap (λ (bs : List (List ℕ)). block ∷ bs) rest.all ∙ sym cut;
      none =
          ap (report_from number number) cut ∙ report_kept number number block others (records_in block) kept
          ∙ ap (λ (l : List Entry). l ++ report_from (suc number) (suc number) others) silent ∙ rest.none;
      few = omega (arith, ap length cut, rest.few);
    }

-- of no more bytes than so many
sound_in : (many number : ℕ) (file : List ℕ) → length file ≤ many → number ≤ 65536 → (outcome_from read_verdict number (portions 512 file)).end ≡ whole → Sound number file
sound_in zero number file h few e = sound_empty number file few (omega arith)
sound_in (suc many) number file h few e = elim (dec_lt 0 (length file)) [
  | yes there ↦
      let first = first_whole number file there e in
      let a = first_accepted number file there first.records first.took in
      sound_first number file first.records there a
      (sound_in many (suc number) (drop 512 file) (omega (arith, length-drop 512 file)) (omega (arith, a.in_range)) first.went_on)
  | no none ↦ sound_empty number file few (omega arith)
]

pub all_kept : (file : List ℕ) → (reading file).end ≡ whole → kept_of (portions 512 file) ≡ portions 512 file
all_kept file e = (sound_in (length file) 0 file (omega arith) (omega arith) e).all

-- it comes out unchanged, with an empty report
pub unchanged : (file : List ℕ) → AreBytes file → (reading file).end ≡ whole → rescue_of file ≡ accepted (record { mended = file; report = [] })
unchanged file bytes e =
    let s = sound_in (length file) 0 file (omega arith) (omega arith) e in
    let all = subst AllKept s.all (kept_all (portions 512 file) (file_portions file bytes)) in
    let its : numbered_from 0 (kept_of (portions 512 file)) ≡ file =
    ap (numbered_from 0) s.all ∙ numbered_blocks 0 (portions 512 file) all ∙ sym (only_file file bytes e)
    in
    rescued_if file (omega (arith, s.few, ap length s.all))
    ∙ ap (λ (l : List ℕ). accepted (record { mended = l; report = report_from 0 0 (portions 512 file) })) its
    ∙ ap (λ (l : List Entry). accepted (record { mended = file; report = l })) s.none

-- ---- what comes out are bytes

bytes_append : (xs ys : List ℕ) → AreBytes xs → AreBytes ys → AreBytes (xs ++ ys)
bytes_append xs ys a b i = elim (dec_lt i (length xs)) [
  | yes below ↦ omega (arith, get_or-append xs ys 0 i below, a i)
  | no beyond ↦
      let there : length xs + (i - length xs) ≡ i = omega arith in
      omega (arith, ap (λ (k : ℕ). get_or (xs ++ ys) k 0) there, get_or-append-add xs ys (i - length xs) 0, b (i - length xs))
]

bytes_word : (n : ℕ) → n ≤ 65535 → AreBytes (word_bytes n)
bytes_word n few zero = omega arith
bytes_word n few (suc zero) = omega arith
bytes_word n few (suc (suc i)) = omega arith

bytes_sums : (body : List ℕ) → AreBytes (sum_bytes body)
unfolding sums_of
bytes_sums body = bytes_append (word_bytes (sums_of body).plain) (word_bytes (sums_of body).weighted) (bytes_word _ (omega arith)) (bytes_word _ (omega arith))

bytes_renumbered : (number : ℕ) (block : List ℕ) → number ≤ 65535 → AreBytes block → AreBytes (renumbered number block)
unfolding renumbered
bytes_renumbered number block few bytes =
    let body : List ℕ = word_bytes number ++ part 2 508 block in
    bytes_append body (sum_bytes body)
    (bytes_append (word_bytes number) (part 2 508 block) (bytes_word number few) (first_bytes 506 (drop 2 block) (rest_bytes 2 block bytes))) (bytes_sums body)

bytes_numbered : (number : ℕ) (blocks : List (List ℕ)) → number + length blocks ≤ 65536 → AllKept blocks → AreBytes (numbered_from number blocks)
unfolding numbered_from
bytes_numbered number [] few all = λ i. omega arith
bytes_numbered number (block ∷ blocks) few all =
    bytes_append (renumbered number block) (numbered_from (suc number) blocks) (bytes_renumbered number block (omega arith) all.0.bytes)
    (bytes_numbered (suc number) blocks (omega arith) all.1)

pub mended_bytes : (file : List ℕ) (r : Rescued) → AreBytes file → rescue_of file ≡ accepted r → AreBytes r.mended
mended_bytes file r bytes e =
    let its = few_kept file r e in
    subst (λ (s : Rescued). AreBytes s.mended) (sym its.1)
    (bytes_numbered 0 (kept_in file) (omega (arith, its.0)) (kept_all (portions 512 file) (file_portions file bytes)))

-- ---- once more changes nothing more

pub twice : (file : List ℕ) (r : Rescued) → AreBytes file → rescue_of file ≡ accepted r → rescue_of r.mended ≡ accepted (record { mended = r.mended; report = [] })
twice file r bytes e = unchanged r.mended (mended_bytes file r bytes e) (ap (λ (o : Outcome). o.end) (reads_mended file r bytes e))
