-- The counts of the blocks that `chunks` gives, and their sum.
use Rattle.std.proofs.Common.{rules, ◌∙◌, ◌<◌, ◌+◌, ◌^◌, ◌/◌, ap, arith, sum_by, length}
use Rattle.std.proofs.lemmas.Iterator.{YieldsList-from_map}
use Rattle.std.proofs.lemmas.Iterator.Consumers.{sum_by_from_yields_List, fits_by_from_yields_list}
use Rattle.std.specs.Slice.Iter.{chunks_rest, chunks_size}
use Rattle.law_lists.specs.Portions.{portions}
use Rattle.law_lists.proofs.Chunks.{chunks_yield}
use Rattle.block_parts.specs.Parts.{count_in}
use Rattle.file_narration.proofs.Cuts.{portions_at_most}
use Rattle.file_rescued.proofs.Portioned.{file_portions}
use Rattle.file_kept.proofs.RecordsFrom.{sum_is_total, few_in}
use Rattle.file_kept.proofs.count_records.Goals as goal

pub sum-requires-clause-fits : goal.sum-requires-clause-fits
sum-requires-clause-fits c =
    let bytes = c.args.bytes.now in
    let few = few_in (portions 512 bytes) (file_portions bytes (λ i. omega (arith, c.type_inv.bytes i))) in
    let blocks = portions_at_most 512 (omega arith) (length bytes / 512 + 1) bytes (omega arith) in
    let small : sum_by count_in (portions 512 bytes) < 2 ^ 64 = omega (arith, sum_is_total (portions 512 bytes), few, blocks) in
    let its = chunks_yield 512 (omega arith) _ bytes (ap chunks_rest c.map.ensures.source ∙ c.chunks.ensures.rest) (ap chunks_size c.map.ensures.source ∙ c.chunks.ensures.size) in
    fits_by_from_yields_list count_in (portions 512 bytes) _ _ (YieldsList-from_map _ count_in its c.map.ensures.closure (λ x r q k. search rules)) small

pub returns : goal.returns
returns c =
    let bytes = c.args.bytes.now in
    let few = few_in (portions 512 bytes) (file_portions bytes (λ i. omega (arith, c.type_inv.bytes i))) in
    let its = chunks_yield 512 (omega arith) _ bytes (ap chunks_rest c.map.ensures.source ∙ c.chunks.ensures.rest) (ap chunks_size c.map.ensures.source ∙ c.chunks.ensures.size) in
    let many = sum_by_from_yields_List count_in (portions 512 bytes) _ _ c.sum.ensures.ran (YieldsList-from_map _ count_in its c.map.ensures.closure (λ x r q k. search rules)) ∙ sum_is_total (portions 512 bytes) in
    record { so_many = many; few = omega (arith, many, few) }
