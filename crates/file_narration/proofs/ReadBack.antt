-- A file of blocks that hold sound records, any count in each, reads as these records. So what is written reads back equal. The writer fills every
-- block but the last.
use mathlib.Core.Path.{◌≡◌, refl, sym, ◌∙◌, ap, subst}
use mathlib.Core.Bool.{Bool, true, ◌&&◌}
use mathlib.Core.List.{List, [], ◌∷◌, ◌++◌}
use Prim.Native.Nat.{ℕ, zero, suc, ◌+◌, ◌-◌, ◌*◌, ◌≤◌, ◌<◌}
use native.Mathlib.Decide.{dec_lt}
use native.Mathlib.Omega.{arith}
use lib.ListN.{length, get_or, take, drop, length-take, length-drop}
use lib.Seq.{take_all, take-nil, take-take, drop-nil, drop-drop}
use Rattle.law_lists.specs.Portions.{portions}
use Rattle.law_lists.proofs.Every.{and_left, and_right}
use Rattle.law_lists.proofs.Parts.{drop_take}
use Rattle.law_lists.proofs.Portions.{portions_first, portions_after, portions_none}
use Rattle.check_verdicts.specs.Verdicts.{Verdict, accepted, refused}
use Rattle.block_record.specs.RecordBytes.{sound_record}
use Rattle.block_parts.specs.Parts.{count_in, block_bytes, sound_records}
use Rattle.block_check.specs.Blocks.{block_verdict, read_verdict, write_verdict}
use Rattle.block_parts.proofs.Sound.{sound_none, sound_first}
use Rattle.block_parts.proofs.Laid.{block_length, block_count}
use Rattle.block_check.proofs.Verdicts.{some_bytes, records_decide, written_block}
use Rattle.file_narration.specs.Files.{whole, Outcome, nothing, before, go_on, outcome_from, reading, writing, blocks_from}
use Rattle.file_narration.proofs.BlockBack.{block_back}
use Rattle.file_narration.proofs.Cuts.{joined, no_members, portions_joined, portions_at_most, some_members}

-- ---- the outcome of the blocks one after the other

module _ (verdict : ℕ → List ℕ → Verdict (List ℕ)) where
  pub outcome_none : (number : ℕ) → outcome_from verdict number [] ≡ nothing
  unfolding outcome_from
  outcome_none number = refl

  outcome_next : (number : ℕ) (portion : List ℕ) (rest : List (List ℕ)) → outcome_from verdict number (portion ∷ rest) ≡ go_on number (verdict number portion) (outcome_from verdict (suc number) rest)
  unfolding outcome_from
  outcome_next number portion rest = refl

  pub outcome_accepted : (number : ℕ) (portion given : List ℕ) (rest : List (List ℕ)) → verdict number portion ≡ accepted given
      → outcome_from verdict number (portion ∷ rest) ≡ before given (outcome_from verdict (suc number) rest)
  unfolding outcome_from
  outcome_accepted number portion given rest e = rw e

-- ---- any count in any block

-- records that a block can hold
pub record Holdable (records : List ℕ) : Type 0 where
  pub some : 0 < length records
  pub few : length records ≤ 480
  pub sound : sound_records records ≡ true

-- every list of a list of them
abbrev pub AllHoldable : List (List ℕ) → Type 0
AllHoldable [] = Unit {0}
AllHoldable (records ∷ rest) = Holdable records × AllHoldable rest

-- a block among the bytes of a file
its_verdict : (number : ℕ) (records : List ℕ) → number ≤ 65535 → Holdable records → read_verdict number (block_bytes number records) ≡ accepted records
its_verdict number records in-range h =
    let long = block_length number records h.few in
    some_bytes number (block_bytes number records) (omega arith)
    ∙ ap (block_verdict number) (take_all 512 (block_bytes number records) (omega arith))
    ∙ block_back number records in-range h.some h.few h.sound

-- the reader takes any sound count in any block
pub any_count : (number : ℕ) (lists : List (List ℕ)) → number + length lists ≤ 65536 → AllHoldable lists
    → outcome_from read_verdict number (portions 512 (blocks_from number lists)) ≡ record { given = joined lists; end = whole }
unfolding blocks_from
any_count number [] limit all = ap (outcome_from read_verdict number) (portions_none 512) ∙ outcome_none read_verdict number
any_count number (records ∷ rest) limit all =
    ap (outcome_from read_verdict number)
    (portions_after 512 (omega arith) (block_bytes number records) (blocks_from (suc number) rest) (block_length number records all.0.few))
    ∙ outcome_accepted read_verdict number (block_bytes number records) records (portions 512 (blocks_from (suc number) rest))
    (its_verdict number records (omega arith) all.0)
    ∙ ap (before records) (any_count (suc number) rest (omega arith) all.1)

-- ---- what is written

-- a portion of records that are sound is written as its block
its_block : (number : ℕ) (records : List ℕ) → number ≤ 65535 → Holdable records → write_verdict number records ≡ accepted (block_bytes number records)
its_block number records in-range h =
    let all : take 480 records ≡ records = take_all 480 records h.few in
    records_decide number records true h.some in-range (ap sound_records all ∙ h.sound) ∙ ap (λ (r : List ℕ). accepted (block_bytes number r)) all

-- so lists of them are written as the file that holds them
pub written_blocks : (number : ℕ) (lists : List (List ℕ)) → number + length lists ≤ 65536 → AllHoldable lists
    → outcome_from write_verdict number lists ≡ record { given = blocks_from number lists; end = whole }
unfolding blocks_from
written_blocks number [] limit all = outcome_none write_verdict number
written_blocks number (records ∷ rest) limit all =
    outcome_accepted write_verdict number records (block_bytes number records) rest (its_block number records (omega arith) all.0)
    ∙ ap (before (block_bytes number records)) (written_blocks (suc number) rest (omega arith) all.1)

-- ---- the portions of sound records

-- of whole records, the first ones and the rest are sound
first_sound : (many : ℕ) (bytes : List ℕ) → sound_records bytes ≡ true → (sound_records (take (24 * many) bytes) ≡ true) × (sound_records (drop (24 * many) bytes) ≡ true)
first_sound zero bytes e = (sound_none, e)
first_sound (suc many) bytes e = elim (dec_lt 0 (length bytes)) [
  | yes some ↦
      let both : sound_record (take 24 bytes) && sound_records (drop 24 bytes) ≡ true = sym (sound_first bytes some) ∙ e in
      let first = and_left (sound_record (take 24 bytes)) (sound_records (drop 24 bytes)) both in
      let rest = first_sound many (drop 24 bytes) (and_right (sound_record (take 24 bytes)) (sound_records (drop 24 bytes)) both) in
      let size : 24 * suc many ≡ 24 + 24 * many = omega arith in
      let there : 0 < length (take (24 * suc many) bytes) = omega (arith, length-take (24 * suc many) bytes) in
      let its-first : take 24 (take (24 * suc many) bytes) ≡ take 24 bytes = take-take 24 (24 * suc many) bytes (omega arith) in
      let its-rest : drop 24 (take (24 * suc many) bytes) ≡ take (24 * many) (drop 24 bytes) =
      drop_take 24 (24 * suc many) bytes ∙ ap (λ (n : ℕ). take n (drop 24 bytes)) {x = 24 * suc many - 24} {y = 24 * many} (omega arith)
      in (
        sound_first (take (24 * suc many) bytes) there
            ∙ ap (λ (r : List ℕ). sound_record r && sound_records (drop 24 (take (24 * suc many) bytes))) its-first
            ∙ ap (λ (r : List ℕ). sound_record (take 24 bytes) && sound_records r) its-rest
            ∙ both_true first rest.0,
        ap (λ (n : ℕ). sound_records (drop n bytes)) size ∙ ap sound_records (sym (drop-drop (24 * many) 24 bytes)) ∙ rest.1,
      )
  | no none ↦
      let empty : bytes ≡ [] = no_members bytes (omega arith) in
      (ap sound_records (ap (take (24 * suc many)) empty ∙ take-nil (24 * suc many)) ∙ sound_none, ap sound_records (ap (drop (24 * suc many)) empty ∙ drop-nil (24 * suc many)) ∙ sound_none)
]
  where
    both_true : {a b : Bool} → a ≡ true → b ≡ true → a && b ≡ true
    both_true {a} {b} p q = rw (p, q)

-- portions of sound records can be held, each by its block
pub all_holdable : (many : ℕ) (records : List ℕ) → length records ≤ many → sound_records records ≡ true → AllHoldable (portions 480 records)
all_holdable zero records h sound = subst AllHoldable (sym (ap (portions 480) (no_members records (omega arith)) ∙ portions_none 480)) tt
all_holdable (suc many) records h sound = elim (dec_lt 0 (length records)) [
  | yes there ↦
      let parts = first_sound 20 records sound in
      subst AllHoldable (sym (portions_first 480 (omega arith) records there)) (
        record { some = omega (arith, length-take 480 records); few = omega (arith, length-take 480 records); sound = parts.0 },
        all_holdable many (drop 480 records) (omega (arith, length-drop 480 records)) parts.1,
      )
  | no none ↦ subst AllHoldable (sym (ap (portions 480) (no_members records (omega arith)) ∙ portions_none 480)) tt
]

-- ---- what is written reads back equal

-- sound records, as many as blocks can hold
module _ (records : List ℕ) (sound : sound_records records ≡ true) (limit : length records ≤ 480 * 65536) where
  abbrev lists : List (List ℕ)
  lists = portions 480 records

  fits : 0 + length (portions 480 records) ≤ 65536
  fits = omega (arith, portions_at_most 480 (omega arith) 65536 records limit)

  -- they are written whole, as the file whose blocks hold their portions
  pub all_written : writing records ≡ record { given = blocks_from 0 (portions 480 records); end = whole }
  all_written = written_blocks 0 lists fits (all_holdable (length records) records (omega arith) sound)

  -- and this reads as the records
  pub read_back : reading (writing records).given ≡ record { given = records; end = whole }
  read_back =
      ap (λ (o : Outcome). reading o.given) all_written
      ∙ any_count 0 lists fits (all_holdable (length records) records (omega arith) sound)
      ∙ ap (λ (r : List ℕ). record { given = r; end = whole }) (portions_joined 480 (omega arith) records)

-- ---- every block that is written, but the last, holds twenty records, whatever is refused after it

-- a block of some bytes that another follows
abbrev Full : List ℕ → ℕ → Type 0
Full given block = suc block < length (portions 512 given) → count_in (get_or (portions 512 given) block []) ≡ 20

none_full : (block : ℕ) → Full [] block
none_full block more = absurd (omega (arith, ap length (portions_none {A = ℕ} 512)))

full_step : (first rest : List ℕ) → length first ≡ 512 → (0 < length rest → count_in first ≡ 20) → ((block : ℕ) → Full rest block) → (block : ℕ) → Full (first ++ rest) block
full_step first rest is its later zero more =
    let next = portions_after 512 (omega arith) first rest is in
    ap (λ (ps : List (List ℕ)). count_in (get_or ps 0 [])) next ∙ its (some_members 512 (omega arith) rest (omega (arith, ap length next)))
full_step first rest is its later (suc block) more =
    let next = portions_after 512 (omega arith) first rest is in
    ap (λ (ps : List (List ℕ)). count_in (get_or ps (suc block) [])) next ∙ later block (omega (arith, ap length next))

-- what is written of some records, the first block of this number
abbrev written : ℕ → List ℕ → Outcome
written number records = outcome_from write_verdict number (portions 480 records)

none_written : (number : ℕ) (records : List ℕ) → length records ≡ 0 → written number records ≡ nothing
none_written number records h = ap (outcome_from write_verdict number) (ap (portions 480) (no_members records h) ∙ portions_none 480) ∙ outcome_none write_verdict number

-- what gives bytes has records
some_left : (number : ℕ) (records : List ℕ) → 0 < length (written number records).given → 0 < length records
some_left number records more = elim (dec_lt 0 (length records)) [
  | yes there ↦ there
  | no none ↦ absurd (omega (arith, ap (λ (o : Outcome). length o.given) (none_written number records (omega arith))))
]

by_verdict : (number : ℕ) (records : List ℕ) → 0 < length records → ((block : ℕ) → Full (written (suc number) (drop 480 records)).given block)
    → (v : Verdict (List ℕ)) → write_verdict number (take 480 records) ≡ v → (block : ℕ) → Full (go_on number v (written (suc number) (drop 480 records))).given block
by_verdict number records there later (refused fault) e block = none_full block
by_verdict number records there later (accepted given) e block =
    let portion = take 480 records in
    let its = (written_block number portion given (omega (arith, length-take 480 records)) e).2 in
    let taken = take 480 portion in
    full_step given (written (suc number) (drop 480 records)).given
    (ap length its ∙ block_length number taken (omega (arith, length-take 480 portion)))
    (λ more.
    let others : 0 < length (drop 480 records) = some_left (suc number) (drop 480 records) more in
    ap count_in its ∙ block_count number taken ∙ omega (arith, length-take 480 portion, length-take 480 records, length-drop 480 records)) later block

full_in : (many number : ℕ) (records : List ℕ) → length records ≤ many → (block : ℕ) → Full (written number records).given block
full_in zero number records h block = subst (λ (o : Outcome). Full o.given block) (sym (none_written number records (omega arith))) (none_full block)
full_in (suc many) number records h block = elim (dec_lt 0 (length records)) [
  | yes there ↦
      let later : (block : ℕ) → Full (written (suc number) (drop 480 records)).given block = full_in many (suc number) (drop 480 records) (omega (arith, length-drop 480 records)) in
      subst (λ (o : Outcome). Full o.given block) (sym (ap (outcome_from write_verdict number) (portions_first 480 (omega arith) records there) ∙ outcome_next write_verdict number (take 480 records) (portions 480 (drop 480 records))))
      (by_verdict number records there later (write_verdict number (take 480 records)) refl block)
  | no none ↦ subst (λ (o : Outcome). Full o.given block) (sym (none_written number records (omega arith))) (none_full block)
]

pub every_block_full : (records : List ℕ) (block : ℕ) → suc block < length (portions 512 (writing records).given)
    → count_in (get_or (portions 512 (writing records).given) block []) ≡ 20
every_block_full records block more = full_in (length records) 0 records (omega arith) block more

-- no records write no bytes, and no bytes read as no records
pub nothing_written : writing [] ≡ nothing
nothing_written = ap (outcome_from write_verdict 0) (portions_none 480) ∙ outcome_none write_verdict 0

pub nothing_read : reading [] ≡ nothing
nothing_read = ap (outcome_from read_verdict 0) (portions_none 512) ∙ outcome_none read_verdict 0
