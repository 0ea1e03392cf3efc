-- The block is written to a buffer of its own first.
use Rattle.std.proofs.Common.{refl}
use lib.ListN.{replicate}
use Rattle.io_portion.proofs.Steps.{puts, in_buffer}
use Rattle.io_portion.proofs.ToBlocksWay.put_block.Goals as goal

pub returns : goal.returns
returns g c =
    let g = c.args in
    let called = c.write_block in
    let block = in_buffer g.number g.portion.now (replicate 512 0) called.new.block _ c.requires refl c.in_ok-write_block.ensures.answer called.ensures.bytes in
    puts _ _ _ _ _ block.took c.put.ensures
