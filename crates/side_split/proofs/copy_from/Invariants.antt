-- The invariant: the lines passed are the spectrum's, and with the rest of the spectrum's they are what is to be left.
use Rattle.std.proofs.Common.{◌≡◌, ◌++◌, length, take, drop}
use Rattle.side_split.proofs.copy_from.Given as goal

abbrev pub invariant-loop-i : goal.invariant-loop-i
invariant-loop-i l = record {
  as_many : length l.output ≡ length l.spectrum;
  going : take l.n l.fn.output ++ drop l.n l.spectrum ≡ take l.i l.output ++ drop l.i l.spectrum;
}
