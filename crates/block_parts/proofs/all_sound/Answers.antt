-- The tests of the portions that `chunks` gives, one after the other.
use Rattle.std.proofs.Common.{rules, ◌∙◌, arith}
use Rattle.std.proofs.lemmas.Iterator.Search.{all_from_yields_List}
use Rattle.law_lists.specs.Portions.{portions}
use Rattle.law_lists.proofs.Every.{every_is_all}
use Rattle.law_lists.proofs.Chunks.{chunks_yield}
use Rattle.block_record.specs.RecordBytes.{sound_record}
use Rattle.block_parts.specs.Parts.{sound_records}
use Rattle.block_parts.proofs.all_sound.Goals as goal

pub returns : goal.returns
unfolding sound_records
returns c =
    let its = chunks_yield 24 (omega arith) c.chunks.result c.args.bytes.now c.chunks.ensures.rest c.chunks.ensures.size in
    all_from_yields_List sound_record _ _ _ c.all.ensures.ran its (λ x b q k. search rules) ∙ every_is_all sound_record (portions 24 c.args.bytes.now)
