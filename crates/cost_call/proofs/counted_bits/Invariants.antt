-- The invariant of the loop: the bits of the filters passed, each rounded up by itself.
use Rattle.std.proofs.Common.{◌≡◌, ◌*◌, ◌≤◌, length}
use Rattle.cost_call.specs.Cost.{counted_bits}
use Rattle.cost_call.proofs.counted_bits.Given as goal

abbrev pub invariant-loop-order : goal.invariant-loop-order
invariant-loop-order l =
    record { all : l.bits ≡ counted_bits l.weighting (length l.yielded) l.fn.side.orders l.fn.side.indices; few : l.bits ≤ 84 * length l.yielded }
