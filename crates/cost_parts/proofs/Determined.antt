-- Any two results that a contract allows for one input coincide: the law of `law_results`, cited for `cost_2048ths`. What it leaves of the two numbers
-- coincides too.
use mathlib.Core.List.{List}
use Prim.Native.Nat.{ℕ}
use Rattle.law_results.proofs.Determined.{DeterminedWith, itself}
use Rattle.check_refusals.proofs.Determined.{by_verdict}
use Rattle.cost_parts.proofs.cost_2048ths.Kinds as cost-2048ths-kinds
use Rattle.cost_parts.proofs.cost_2048ths.Reads as cost-2048ths-reads

cost_2048ths : DeterminedWith 3 cost-2048ths-kinds.ps cost-2048ths-kinds.r cost-2048ths-reads.Post (List ℕ) (λ κs s. s.1.1.1.1.0.now)
cost_2048ths κs a x y s t p q = (by_verdict p.priced.answer q.priced.answer, itself p.told.parts q.told.parts)
