-- The blocks that `chunks` gives and that the check keeps.
use Rattle.std.proofs.Common.{rules, ◌∙◌, ap, arith}
use Rattle.std.proofs.lemmas.Iterator.Consumers.{YieldsList-from_filter, count_from_yields_List}
use Rattle.std.specs.Slice.Iter.{chunks_rest, chunks_size}
use Rattle.law_lists.specs.Portions.{portions}
use Rattle.law_lists.proofs.Chunks.{chunks_yield}
use Rattle.file_rescued.proofs.Portioned.{file_portions}
use Rattle.file_kept.proofs.KeptFrom.{is_kept, kept_told, kept_counted}
use Rattle.file_kept.proofs.count_kept.Goals as goal

pub returns : goal.returns
returns c =
    let bytes = c.args.bytes.now in
    let its = chunks_yield 512 (omega arith) _ bytes (ap chunks_rest c.filter.ensures.source ∙ c.chunks.ensures.rest) (ap chunks_size c.filter.ensures.source ∙ c.chunks.ensures.size) in
    count_from_yields_List _ _ c.count.ensures.ran (YieldsList-from_filter _ is_kept its c.filter.ensures.closure (λ x b q k. search (rules, kept_told)))
    ∙ kept_counted (portions 512 bytes) (file_portions bytes (λ i. omega (arith, c.type_inv.bytes i)))
