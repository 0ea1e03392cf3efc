-- What is put of a portion, by its answer: where it is accepted its records, which stand in it, or the block, which was written to a buffer of zeros.
use mathlib.Core.Path.{◌≡◌, sym, ◌∙◌, ap}
use mathlib.Core.List.{List, ◌++◌, append-nil}
use Prim.Native.Nat.{ℕ, ◌≤◌, ◌<◌}
use native.Mathlib.Omega.{arith}
use lib.ListN.{length, take, length-take, drop_of_length-le}
use Rattle.std.specs.Prelude.{Ok, Err}
use Rattle.check_verdicts.specs.Verdicts.{Verdict, accepted, refused, unless_refused, on_accepted}
use Rattle.block_parts.specs.Parts.{count_in, count_of}
use Rattle.block_check.specs.Blocks.{read_verdict, write_verdict}
use Rattle.block_check.specs.Told.{block_fault}
use Rattle.block_check.specs.declared.check.BlockRefusal.{BlockRefusal}
use Rattle.block_buffer.specs.Buffers.{laid_over}
use Rattle.block_parts.proofs.Laid.{block_length}
use Rattle.block_check.proofs.Verdicts.{accepted_too, refused_too, written_block, Given, given_block}
use Rattle.block_buffer.proofs.Buffers.{as_told}
use Rattle.text_put.specs.Text.{after}
use Rattle.io_portion.specs.OnePortion.{PutsPortion}

-- what an accepted block gives was put
pub puts : (room : ℕ) (verdict : Verdict (List ℕ)) (given found left : List ℕ) → verdict ≡ accepted given → left ≡ after room found given → PutsPortion verdict room found left (Ok tt)
puts room verdict given found left e put =
    record {
      answer = ap (on_accepted (λ given. tt)) (sym e);
      bytes = put ∙ ap (λ (v : Verdict (List ℕ)). unless_refused v (after room found) found) (sym e);
    }

-- so it was, where nothing is refused; and where something is, nothing was put
pub record Took (room : ℕ) (verdict : Verdict (List ℕ)) (found left : List ℕ) : Type 0 where
  pub given : List ℕ
  pub accepts : verdict ≡ accepted given
  pub put : left ≡ after room found given

module _ (room : ℕ) (verdict : Verdict (List ℕ)) (found left : List ℕ) where
  pub took : PutsPortion verdict room found left (Ok tt) → Took room verdict found left
  took done =
      let from = accepted_too (λ given. tt) verdict tt done.answer in
      record {
        given = from.of;
        accepts = from.verdict;
        put = done.bytes ∙ ap (λ (v : Verdict (List ℕ)). unless_refused v (after room found) found) from.verdict;
      }

  pub refuses : (why : BlockRefusal) → PutsPortion verdict room found left (Err why) → (verdict ≡ refused (block_fault why)) × (left ≡ found)
  refuses why done =
      let is = refused_too (λ given. tt) verdict (block_fault why) done.answer in
      (is, done.bytes ∙ ap (λ (v : Verdict (List ℕ)). unless_refused v (after room found) found) is)

-- a portion that is counted is a block whose records are so many
pub its_records : (number : ℕ) (portion : List ℕ) (count : ℕ) → 0 < length portion → accepted count ≡ on_accepted count_of (read_verdict number portion) → Given number portion count
its_records number portion count some e =
    let from = accepted_too count_of (read_verdict number portion) count e in
    (given_block number portion count from.of from.verdict some from.made_of).0

pub record WrittenBlock (number : ℕ) (records left : List ℕ) : Type 0 where
  pub took : write_verdict number records ≡ accepted left
  pub long : length left ≡ 512

-- in a buffer of 512
pub in_buffer : (number : ℕ) (records found left : List ℕ) (count : ℕ) → 0 < length records → length found ≡ 512
    → accepted count ≡ on_accepted count_in (write_verdict number records)
    → left ≡ unless_refused (write_verdict number records) (λ given. laid_over given found) found → WrittenBlock number records left
in_buffer number records found left count some whole e h =
    let from = accepted_too count_in (write_verdict number records) count e in
    let its = (written_block number records from.of some from.verdict).2 in
    let long : length from.of ≡ 512 = ap length its ∙ block_length number (take 480 records) (omega (arith, length-take 480 records)) in
    let past : length found ≤ length from.of = omega arith in
    let same : left ≡ from.of =
    as_told (accepted from.of) (write_verdict number records) found left (sym from.verdict) h ∙ ap (λ (l : List ℕ). from.of ++ l) (drop_of_length-le found past) ∙ append-nil from.of
    in
    record { took = from.verdict ∙ ap accepted (sym same); long = ap length same ∙ long }
