-- The records that the checks accept lie in the block from byte 8 on.
use Rattle.std.proofs.Common.{arith}
use Rattle.io_portion.proofs.Steps.{puts, its_records}
use Rattle.io_portion.proofs.ToRecordsWay.put_block.Goals as goal

pub overflow_mul-count : goal.overflow_mul-count
overflow_mul-count g c = omega (arith, (its_records c.args.number c.args.portion.now c.in_ok-count.count c.requires c.in_ok-count.ensures).few)

pub overflow_add-count : goal.overflow_add-count
overflow_add-count g c = omega (arith, (its_records c.args.number c.args.portion.now c.in_ok-count.count c.requires c.in_ok-count.ensures).few)

pub slice_bounds-put-end : goal.slice_bounds-put-end
slice_bounds-put-end g c =
    let its = its_records c.args.number c.args.portion.now c.in_ok-count.count c.requires c.in_ok-count.ensures in omega (arith, its.few, its.long)

pub returns : goal.returns
returns g c =
    puts _ _ _ _ _ (its_records c.args.number c.args.portion.now c.in_ok-count.count c.requires c.in_ok-count.ensures).verdict c.put.ensures
