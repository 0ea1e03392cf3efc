-- What `tns_block_write` and `tns_block_read` promise.
use Rattle.std.specs.Prelude.{◌≡◌, List, ℕ}
use Rattle.check_verdicts.specs.Verdicts.{Verdict, unless_refused, on_accepted}
use Rattle.block_buffer.specs.Buffers.{laid_over}
use Rattle.answer_block.specs.BlockAnswers.{block_for}
use Rattle.answer_block.specs.declared.BlockTold.{BlockTold}

-- By the verdict on a block: the answer, and what the buffer holds. What is given lies at its start, the rest of
-- it is as it was found, and a refused call leaves all of it so.
pub record TnsBlock (verdict : Verdict (List ℕ)) (count : List ℕ → ℕ) (found left : List ℕ) (result : BlockTold) : Type 0 where
  pub answer : result ≡ block_for (on_accepted count verdict)
  pub bytes : left ≡ unless_refused verdict (λ given. laid_over given found) found
