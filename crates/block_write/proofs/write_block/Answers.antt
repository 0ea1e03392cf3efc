-- No records; a block too many; a record that is not sound; or the block, which fills the buffer.
use mathlib.Core.Path.{◌≡◌, refl, sym, ◌∙◌, ap}
use mathlib.Core.Bool.{true, false}
use mathlib.Core.List.{List, [], ◌++◌, append-nil}
use Prim.Native.Nat.{ℕ, min}
use native.Mathlib.Omega.{arith}
use lib.ListN.{length, take, drop, length-take, drop_of_length-le}
use Rattle.std.proofs.Common.{rules}
use Rattle.std.proofs.lemmas.List.{take_min}
use Rattle.check_verdicts.specs.Verdicts.{accepted}
use Rattle.block_parts.specs.Parts.{count_of, sound_records, block_bytes}
use Rattle.block_parts.proofs.Laid.{block_count, block_length}
use Rattle.block_check.proofs.Verdicts.{no_records, block_past, records_decide}
use Rattle.block_buffer.proofs.Buffers.{done_by}
use Rattle.block_write.proofs.write_block.Goals as goal

-- the first twenty, or all
taken_of : (records : List ℕ) (n : ℕ) → n ≡ min (length records) 480 → take n records ≡ take 480 records
taken_of records n e = let same : n ≡ min 480 (length records) = omega arith in ap (λ (k : ℕ). take k records) same ∙ take_min 480 records

pub returns-then-is_empty : goal.returns-then-is_empty
returns-then-is_empty c = done_by _ (no_records c.args.number c.args.records.now (search rules)) refl refl

pub returns-in_default : goal.returns-in_default
returns-in_default c = done_by _ (block_past c.args.number c.args.records.now (search rules) (omega (arith, c.in_default.ensures))) refl refl

pub returns-then-not-all_sound : goal.returns-then-not-all_sound
returns-then-not-all_sound c =
    let records = c.args.records.now in
    let its = taken_of records c.min.result c.min.ensures in
    let number = c.in-Ok.ensures in
    done_by _ (records_decide c.args.number records false (search rules) (omega (arith, number.0)) (ap sound_records (sym its) ∙ sym c.if-not-all_sound.ensures)) refl refl

pub returns : goal.returns
returns c =
    let number = c.args.number in
    let records = c.args.records.now in
    let its = taken_of records c.min.result c.min.ensures in
    let same = c.in-Ok.ensures in
    let block : c.block_of.result ≡ block_bytes number (take 480 records) = c.block_of.ensures ∙ ap (λ (n : ℕ). block_bytes n (take c.min.result records)) same.1 ∙ ap (block_bytes number) its in
    let whole : length (block_bytes number (take 480 records)) ≡ 512 = block_length number (take 480 records) (omega (arith, length-take 480 records)) in
    let none : drop (length (block_bytes number (take 480 records))) c.args.block.now ≡ [] = drop_of_length-le c.args.block.now (omega arith) in
    done_by _ (records_decide number records true (search rules) (omega (arith, same.0)) (ap sound_records (sym its) ∙ sym c.if-not-all_sound.ensures))
    (ap accepted (ap count_of its ∙ sym (block_count number (take 480 records))))
    (block ∙ sym (append-nil _) ∙ ap (λ (l : List ℕ). block_bytes number (take 480 records) ++ l) (sym none))
