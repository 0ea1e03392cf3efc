-- Too few bytes to hold a number; or what the reader says of the block at the number that stands in it.
use Rattle.std.proofs.Common.{rules, ◌≡◌, sym, ◌∙◌, ap, List, ℕ, take, arith, Err}
use lib.ListN.{length-take}
use Rattle.check_verdicts.specs.Verdicts.{Verdict, verdict_by, accepted, on_accepted}
use Rattle.block_parts.specs.Parts.{count_of, number_in, records_in}
use Rattle.block_check.specs.Told.{block_fault}
use Rattle.block_check.proofs.Verdicts.{refused_too, accepted_too}
use Rattle.block_kept.proofs.Kept.{own_read, too_short}
use Rattle.block_kept.proofs.check_kept.Goals as goal

abbrev told : List ℕ → Verdict (List ℕ) → Verdict ℕ
told bytes = on_accepted (λ _. number_in bytes)

pub returns-in_default : goal.returns-in_default
returns-in_default c =
    let bytes = c.args.bytes.now in
    ap (told bytes) (sym (too_short (take 512 bytes) (accepted (records_in (take 512 bytes))) (omega (arith, length-take 512 bytes))))

-- what the reader says
pub returns-in_err-check_block : goal.returns-in_err-check_block
returns-in_err-check_block c =
    let bytes = c.args.bytes.now in
    let read = own_read bytes c.from.result (omega arith) (omega arith) (c.from.ensures ∙ c.word_of-own.ensures) in
    let same : c.from_residual.result ≡ Err c.in_err-check_block.field-0.0 = search rules in
    ap (verdict_by block_fault) same ∙ ap (told bytes) (sym (sym read ∙ refused_too count_of _ _ c.in_err-check_block.ensures))

pub returns : goal.returns
returns c =
    let bytes = c.args.bytes.now in
    let read = own_read bytes c.from.result (omega arith) (omega arith) (c.from.ensures ∙ c.word_of-own.ensures) in
    let from = accepted_too count_of _ _ c.in_ok-check_block.ensures in
    ap accepted c.word_of-own.ensures ∙ ap (told bytes) (sym (sym read ∙ from.verdict))
