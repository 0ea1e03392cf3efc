-- What `tns_block_rescue` promises.
use Rattle.std.specs.Prelude.{◌≡◌, List, ℕ}
use Rattle.check_verdicts.specs.Verdicts.{unless_refused, on_accepted}
use Rattle.block_parts.specs.Parts.{number_in}
use Rattle.block_rescue.specs.Rescue.{rescue_verdict}
use Rattle.answer_block.specs.BlockAnswers.{rescue_for}
use Rattle.answer_block.specs.declared.RescueTold.{RescueTold}

-- By the verdict on a block that is to have this number: the answer, and what the buffer holds, which is the block as it becomes. A refused call
-- leaves it as it was found.
pub record TnsRescues (number : ℕ) (block found left : List ℕ) (result : RescueTold) : Type 0 where
  pub answer : result ≡ rescue_for (on_accepted (λ _. number_in block) (rescue_verdict number block))
  pub bytes : left ≡ unless_refused (rescue_verdict number block) (λ becomes. becomes) found
