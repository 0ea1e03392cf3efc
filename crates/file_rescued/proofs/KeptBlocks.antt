-- A kept block, as it becomes, is the one that its records are written as under its new number: so the file that the kept blocks make is one that the
-- writer could have made of them.
use mathlib.Core.Path.{◌≡◌, refl, ◌∙◌, ap}
use mathlib.Core.List.{List, [], ◌∷◌, ◌++◌, map}
use Prim.Native.Nat.{ℕ, suc, ◌*◌, ◌≤◌}
use native.Mathlib.Omega.{arith}
use lib.ListN.{length}
use lib.Seq.{take_at}
use Rattle.law_lists.specs.Places.{part}
use Rattle.check_verdicts.specs.Verdicts.{Fault, Verdict, accepted, refused, unless_refused}
use Rattle.block_numbers.specs.Words.{word_bytes}
use Rattle.block_parts.specs.Parts.{count_of, count_in, number_in, records_in, header_bytes, fill_bytes, body_bytes, sum_bytes, block_bytes}
use Rattle.block_parts.proofs.Laid.{body_length}
use Rattle.block_check.proofs.Verdicts.{AcceptedBlock}
use Rattle.block_parts.proofs.Counted.{few_records, some_records, records_length}
use Rattle.file_narration.specs.Files.{blocks_from}
use Rattle.file_narration.proofs.OnlyBlock.{AreBytes, only_block}
use Rattle.file_narration.proofs.ReadBack.{Holdable, AllHoldable}
use Rattle.block_kept.specs.Kept.{kept_verdict}
use Rattle.block_kept.proofs.Kept.{kept_block}
use Rattle.block_rescue.specs.Rescue.{renumbered}
use Rattle.file_rescued.specs.Rescues.{kept_of, numbered_from}
use Rattle.file_rescued.proofs.Portioned.{Portion, AllPortions}

-- ---- one block

-- all of a block but number and sums, as it is written
abbrev written_bytes : List ℕ → List ℕ
written_bytes records = header_bytes (count_of records) ++ records ++ fill_bytes records

after-number : (number : ℕ) (records : List ℕ) → length records ≤ 480 → part 2 508 (block_bytes number records) ≡ written_bytes records
unfolding block_bytes body_bytes
after-number number records few =
    let many : length (written_bytes records) ≡ 506 = omega (arith, body_length number records few) in
    take_at (written_bytes records) (sum_bytes (body_bytes number records)) 506 many

-- so a block that is written has the same bytes under any number
renumbered_bytes : (number : ℕ) (block records : List ℕ) → part 2 508 block ≡ written_bytes records → renumbered number block ≡ block_bytes number records
unfolding renumbered block_bytes body_bytes
renumbered_bytes number block records e = ap (λ (l : List ℕ). (word_bytes number ++ l) ++ sum_bytes (word_bytes number ++ l)) e

pub renumbered_written : (number old : ℕ) (records : List ℕ) → length records ≤ 480 → renumbered number (block_bytes old records) ≡ block_bytes number records
renumbered_written number old records few = renumbered_bytes number (block_bytes old records) records (after-number old records few)

pub record KeptBlock (block : List ℕ) : Type 0 where
  pub bytes : AreBytes block
  pub is : length block ≡ 512
  pub taken : AcceptedBlock (number_in block) block (records_in block)
  pub verdict : kept_verdict block ≡ accepted (records_in block)

-- the number in a block is two bytes
pub own_few : (block : List ℕ) → AreBytes block → number_in block ≤ 65535
own_few block bytes = omega (arith, bytes 0, bytes 1)

pub kept_is : (block records : List ℕ) → Portion block → kept_verdict block ≡ accepted records → KeptBlock block
kept_is block records p e =
    let few = own_few block p.bytes in
    let its = (kept_block block records few e).given in
    let same : kept_verdict block ≡ accepted (records_in block) = e ∙ ap accepted its in
    let taken = kept_block block (records_in block) few same in
    record { bytes = p.bytes; is = omega (arith, p.few, taken.long); taken = taken; verdict = same }

module _ (block : List ℕ) (k : KeptBlock block) where
  pub its_length : length (records_in block) ≡ 24 * count_in block
  its_length = records_length block k.taken.long (few_records block k.taken.header)

  pub holdable : Holdable (records_in block)
  holdable =
      record {
        some = omega (arith, its_length, some_records block k.taken.header);
        few = omega (arith, its_length, few_records block k.taken.header);
        sound = k.taken.sound;
      }

  its_written : part 2 508 block ≡ written_bytes (records_in block)
  its_written =
      ap (part 2 508) (only_block (number_in block) block (records_in block) k.bytes k.is k.taken) ∙ after-number (number_in block) (records_in block) holdable.few

  pub renumbered_block : (number : ℕ) → renumbered number block ≡ block_bytes number (records_in block)
  renumbered_block number = renumbered_bytes number block (records_in block) its_written

-- ---- those of a file

abbrev pub AllKept : List (List ℕ) → Type 0
AllKept [] = Unit {0}
AllKept (block ∷ rest) = KeptBlock block × AllKept rest

module _ (portion : List ℕ) (rest : List (List ℕ)) where
  pub kept_first : (records : List ℕ) → kept_verdict portion ≡ accepted records → kept_of (portion ∷ rest) ≡ portion ∷ kept_of rest
  unfolding kept_of
  kept_first records e = rw e

  pub left_first : (fault : Fault) → kept_verdict portion ≡ refused fault → kept_of (portion ∷ rest) ≡ kept_of rest
  unfolding kept_of
  left_first fault e = rw e

pub kept_all : (ps : List (List ℕ)) → AllPortions ps → AllKept (kept_of ps)
unfolding kept_of
kept_all [] all = tt
kept_all (p ∷ ps) all = by (kept_all ps all.1) (kept_verdict p) refl
  where
    by : AllKept (kept_of ps) → (v : Verdict (List ℕ)) → kept_verdict p ≡ v → AllKept (unless_refused v (λ records. p ∷ kept_of ps) (kept_of ps))
    by rest (accepted records) e = (kept_is p records all.0 e, rest)
    by rest (refused fault) e = rest

pub all_holdable : (blocks : List (List ℕ)) → AllKept blocks → AllHoldable (map records_in blocks)
all_holdable [] all = tt
all_holdable (block ∷ blocks) all = (holdable block all.0, all_holdable blocks all.1)

-- renumbered, they are the file whose blocks hold their records
pub numbered_blocks : (number : ℕ) (blocks : List (List ℕ)) → AllKept blocks → numbered_from number blocks ≡ blocks_from number (map records_in blocks)
unfolding numbered_from blocks_from
numbered_blocks number [] all = refl
numbered_blocks number (block ∷ blocks) all =
    ap (λ (l : List ℕ). l ++ numbered_from (suc number) blocks) (renumbered_block block all.0 number)
    ∙ ap (λ (l : List ℕ). block_bytes number (records_in block) ++ l) (numbered_blocks (suc number) blocks all.1)
