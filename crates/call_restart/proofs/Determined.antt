-- Any two results that a contract allows for one input coincide: the law of `law_results`, cited for `save` and `restart`, and with it what is left
-- in the lists that were lent. The logic has one NaN, so of a line or a state that is a NaN the bits are left open.
use mathlib.Core.List.{List}
use lib.Ieee.{Float}
use Rattle.law_results.proofs.Determined.{DeterminedWith, itself, of_parts}
use Rattle.check_line.proofs.Determined.{by_line_verdict}
use Rattle.call_restart.specs.Restart.{Lent, lent_at_line}
use Rattle.call_restart.proofs.save.Kinds as save-kinds
use Rattle.call_restart.proofs.save.Reads as save-reads
use Rattle.call_restart.proofs.restart.Kinds as restart-kinds
use Rattle.call_restart.proofs.restart.Reads as restart-reads

-- the answer, the output and the states
save : DeterminedWith 5 save-kinds.ps save-kinds.r save-reads.Post Lent (λ κs s. lent_at_line s.1.1.1.1.1.1.0.now s.1.1.1.1.1.1.1.1.0.now)
save κs a x y s t p q = (
  by_line_verdict p.answer q.answer,
  of_parts lent_at_line (itself p.output q.output) (itself p.states q.states),
)

restart : DeterminedWith 5 restart-kinds.ps restart-kinds.r restart-reads.Post (List Float) (λ κs s. s.1.1.1.1.1.1.0.now)
restart κs a x y s t p q =
    (by_line_verdict p.answer q.answer, itself p.output q.output)
