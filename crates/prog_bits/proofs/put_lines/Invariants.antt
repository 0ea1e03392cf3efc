-- A line for each record, each after those before it.
use Rattle.std.proofs.Common.{◌≡◌, []}
use Rattle.text_put.specs.Text.{after}
use Rattle.prog_bits.specs.Output.{lines_text}
use Rattle.prog_bits.proofs.put_lines.Given as goal

abbrev pub invariant-loop-k : goal.invariant-loop-k
invariant-loop-k l = l.out ≡ after 65536 [] (lines_text l.frame l.bytes l.k)
