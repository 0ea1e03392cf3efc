-- What `tns_decode_save` and `tns_decode_restart` promise.
use Rattle.std.specs.Prelude.{◌≡◌, List, ◌++◌, ℕ, Float, take}
use Rattle.check_verdicts.specs.Verdicts.{Verdict, unless_refused, no_bits}
use Rattle.call_restart.specs.Restart.{Lent}
use Rattle.answer_call.specs.Answers.{answer_for}
use Rattle.answer_call.specs.declared.Answer.{Answer}

-- By the verdict on the call: the answer, and what the output and the states hold. An accepted call writes the decoded lines and the states before
-- the line, and a refused one leaves both as it found them.
pub record TnsSaves (verdict : Verdict (Unit {0})) (decoded before : List Float) (found left : Lent) (result : Answer) : Type 0 where
  pub answer : result ≡ answer_for no_bits verdict
  pub output : left.output ≡ unless_refused verdict (λ u. decoded) found.output
  pub states : left.states ≡ unless_refused verdict (λ u. before) found.states

-- The same of a restart at line n: below it the output holds what it held, and from it on these lines.
pub record TnsRestarts (verdict : Verdict (Unit {0})) (n : ℕ) (lines found left : List Float) (result : Answer) : Type 0 where
  pub answer : result ≡ answer_for no_bits verdict
  pub output : left ≡ unless_refused verdict (λ u. take n found ++ lines) found
