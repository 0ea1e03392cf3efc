-- What a call on a block does by a verdict, it does by one that equals it.
use mathlib.Core.Path.{◌≡◌, sym, ◌∙◌, ap}
use mathlib.Core.List.{List}
use Prim.Native.Nat.{ℕ}
use Rattle.std.specs.Prelude.{Result}
use Rattle.check_verdicts.specs.Verdicts.{Verdict, verdict_by, unless_refused, on_accepted}
use Rattle.block_check.specs.Told.{block_fault}
use Rattle.block_check.specs.declared.check.BlockRefusal.{BlockRefusal}
use Rattle.block_buffer.specs.Buffers.{laid_over, BlockDone}

-- what the buffer holds
pub as_told : (v w : Verdict (List ℕ)) (found left : List ℕ) → v ≡ w → left ≡ unless_refused w (λ given. laid_over given found) found
    → left ≡ unless_refused v (λ given. laid_over given found) found
as_told v w found left e h = rw e h

-- and what it answers
pub done_by : {verdict : Verdict (List ℕ)} {count : List ℕ → ℕ} {found left : List ℕ} {result : Result ℕ BlockRefusal} (v : Verdict (List ℕ)) → verdict ≡ v
    → verdict_by block_fault result ≡ on_accepted count v → left ≡ unless_refused v (λ given. laid_over given found) found → BlockDone verdict count found left result
done_by {verdict} {count} {found} {left} {result} v e answer bytes =
    record {
      answer = answer ∙ ap (on_accepted count) (sym e);
      bytes = as_told verdict v found left e bytes;
    }
