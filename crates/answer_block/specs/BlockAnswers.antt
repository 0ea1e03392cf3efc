-- How the exported functions give a verdict on a block: refusal 0 is an accepted call.
use Rattle.std.specs.Prelude.{ℕ}
use Rattle.check_verdicts.specs.Verdicts.{Verdict, number_of, of_fault, unless_refused}
use Rattle.block_check.specs.Told.{count_said}
use Rattle.answer_block.specs.declared.BlockTold.{BlockTold}
use Rattle.answer_block.specs.declared.RescueTold.{RescueTold}

-- the number of a refusal, 0 where there is none, and how many records
abbrev pub block_for : Verdict ℕ → BlockTold
block_for verdict = record { refusal = of_fault number_of verdict; records = count_said verdict }

-- the number of a refusal, 0 where there is none, and the number that stood in a block that is kept, 0 where none is
abbrev pub rescue_for : Verdict ℕ → RescueTold
rescue_for verdict = record { refusal = of_fault number_of verdict; number = unless_refused verdict (λ own. own) 0 }
