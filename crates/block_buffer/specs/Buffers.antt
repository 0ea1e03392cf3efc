-- What the calls on a block promise: their answer, and what their buffer holds afterwards.
use Rattle.std.specs.Prelude.{◌≡◌, List, ◌++◌, ℕ, length, drop, Result}
use Rattle.check_verdicts.specs.Verdicts.{Verdict, verdict_by, unless_refused, on_accepted}
use Rattle.block_check.specs.Told.{block_fault}
use Rattle.block_check.specs.declared.check.BlockRefusal.{BlockRefusal}

-- some bytes laid over the first of others
abbrev pub laid_over : List ℕ → List ℕ → List ℕ
laid_over given found = given ++ drop (length given) found

-- By the verdict on a block, whose bytes hold so many records: the answer, and what the buffer holds. What is given lies at its start, the rest of
-- it is as it was found, and a refused call leaves all of it so.
pub record BlockDone (verdict : Verdict (List ℕ)) (count : List ℕ → ℕ) (found left : List ℕ) (result : Result ℕ BlockRefusal) : Type 0 where
  pub answer : verdict_by block_fault result ≡ on_accepted count verdict
  pub bytes : left ≡ unless_refused verdict (λ given. laid_over given found) found
