-- Whatever the read gives is answered, and counted as a read.
use Rattle.std.proofs.Common.{arith}
use Rattle.io_reading_count.proofs.Counting.{still_in_range, turns}
use Rattle.io_reading_count.proofs.count_turn.Goals as goal

pub returns : goal.returns
returns c =
    let standing = c.args.ready.standing in
    let stands = c.answered-stands in
    let after = c.after_read in
    let in_range = still_in_range c.read-got.result standing c.read-got.new.piece _ stands.result (omega arith) c.args.ready.unwhole c.read-got.ensures.within stands.ensures in
    turns standing stands.result after.result in_range after.ensures.counted after.ensures.left
