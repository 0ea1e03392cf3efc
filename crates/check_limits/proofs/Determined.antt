-- Any two results that a contract allows for one input coincide: the law of `law_results`, cited for each public function of this crate.
use Rattle.law_results.proofs.Determined.{Determined, itself}
use Rattle.check_limits.proofs.none_over.Kinds as none-over-kinds
use Rattle.check_limits.proofs.none_over.Reads as none-over-reads
use Rattle.check_limits.proofs.lowest_over.Kinds as lowest-over-kinds
use Rattle.check_limits.proofs.lowest_over.Reads as lowest-over-reads

none_over : Determined 1 none-over-kinds.ps none-over-kinds.r none-over-reads.Post
none_over κs a x y s t p q = itself p q

lowest_over_lem : Determined 1 lowest-over-kinds.ps lowest-over-kinds.r lowest-over-reads.Post
lowest_over_lem κs a x y s t p q = itself p q
