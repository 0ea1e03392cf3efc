-- Any two results that a contract allows for one input coincide: the law of `law_results`, cited for `counted_bits` and for `cost`.
use Rattle.law_results.proofs.Determined.{Determined, itself}
use Rattle.check_refusals.proofs.Determined.{by_verdict}
use Rattle.cost_call.proofs.counted_bits.Kinds as counted-bits-kinds
use Rattle.cost_call.proofs.counted_bits.Reads as counted-bits-reads
use Rattle.cost_call.proofs.cost.Kinds as cost-kinds
use Rattle.cost_call.proofs.cost.Reads as cost-reads

counted_bits_lem : Determined 1 counted-bits-kinds.ps counted-bits-kinds.r counted-bits-reads.Post
counted_bits_lem κs a x y s t p q = itself p q

cost : Determined 2 cost-kinds.ps cost-kinds.r cost-reads.Post
cost κs a x y s t p q = by_verdict p.answer q.answer
