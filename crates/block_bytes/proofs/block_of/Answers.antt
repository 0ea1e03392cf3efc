-- The records are laid after the header, and the number and the sums then make the rest of the block.
use Rattle.std.proofs.Common.{refl, ◌∙◌, ap, List, ◌++◌, ℕ, ◌+◌, ◌-◌, length, replicate, arith}
use Rattle.std.proofs.lemmas.Slice.{put_mid-paste}
use Rattle.law_lists.specs.Places.{part}
use Rattle.block_numbers.specs.Words.{word_bytes}
use Rattle.block_parts.specs.Parts.{header_bytes, count_of, sum_bytes, block_bytes}
use Rattle.block_parts.proofs.Laid.{body_laid, numbered_body}
use Rattle.block_bytes.proofs.block_of.Goals as goal

pub returns : goal.returns
unfolding block_bytes
returns c =
    let number = c.args.number in
    let records = c.args.records.now in
    let n = length records in
    c.numbered.ensures
    ∙ ap (λ (block : List ℕ). word_bytes number ++ part 2 508 block ++ sum_bytes (word_bytes number ++ part 2 508 block))
    (put_mid-paste 8 (8 + n - 8) (word_bytes 0 ++ header_bytes (count_of records) ++ replicate 504 0) _ records n c.copy_from_slice.ensures.after (omega arith) refl ∙ body_laid 0 records c.requires)
    ∙ ap (λ (body : List ℕ). body ++ sum_bytes body) (numbered_body number records c.requires)
