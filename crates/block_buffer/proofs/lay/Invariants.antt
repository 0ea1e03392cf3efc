-- The invariant: so many bytes are laid.
use mathlib.Core.Path.{◌≡◌}
use lib.Seq.{paste}
use Rattle.block_buffer.proofs.lay.Given as goal

abbrev pub invariant-loop-i : goal.invariant-loop-i
invariant-loop-i l = l.buffer ≡ paste l.initial.buffer 0 l.bytes l.i
