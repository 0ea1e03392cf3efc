-- What one portion of input becomes, which is one block, read or written: what is put of it, and what holds either way.
use Rattle.std.specs.Prelude.{◌≡◌, List, ℕ, ◌≤◌, ◌<◌, length, Result}
use Rattle.check_verdicts.specs.Verdicts.{Verdict, accepted, verdict_by, unless_refused, on_accepted}
use Rattle.block_check.specs.Told.{block_fault}
use Rattle.block_check.specs.declared.check.BlockRefusal.{BlockRefusal}
use Rattle.text_put.specs.Text.{after}

-- what an accepted block gives was put after the first bytes, in a room of so many; of a refused one nothing was
pub record PutsPortion (verdict : Verdict (List ℕ)) (room : ℕ) (found left : List ℕ) (result : Result (Unit {0}) BlockRefusal) : Type 0 where
  pub answer : verdict_by block_fault result ≡ on_accepted (λ given. tt) verdict
  pub bytes : left ≡ unless_refused verdict (after room found) found

-- What holds of a way, by the size of its portions and by what a portion gives or is refused for: a portion is of 480 to 512 bytes; one that is accepted
-- is not past the last block, and gives 512 bytes at most; and no more is known to be whole than is held.
pub record IsWay (size : ℕ) (verdict : ℕ → List ℕ → Verdict (List ℕ)) (known : ℕ → ℕ) : Type 0 where
  pub enough : 480 ≤ size
  pub most : size ≤ 512
  pub in_range : (number : ℕ) (portion given : List ℕ) → 0 < length portion → verdict number portion ≡ accepted given → number ≤ 65535
  pub few : (number : ℕ) (portion given : List ℕ) → 0 < length portion → verdict number portion ≡ accepted given → length given ≤ 512
  pub known_within : (held : ℕ) → known held ≤ held
