use Rattle.std.proofs.Common.{rules, sym, ap}
use Rattle.check_verdicts.specs.Verdicts.{on_accepted}
use Rattle.block_parts.specs.Parts.{count_of}
use Rattle.block_check.proofs.Verdicts.{no_bytes}
use Rattle.block_check.proofs.check.check_block.Goals as goal

pub returns-then-is_empty : goal.returns-then-is_empty
returns-then-is_empty c = ap (on_accepted count_of) (sym (no_bytes c.args.number c.args.bytes.now (search rules)))
