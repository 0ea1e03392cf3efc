-- Any two results that a contract allows for one input coincide: the law of `law_results`, cited for each public function of this crate.
use Rattle.law_results.proofs.Determined.{Determined, itself}
use Rattle.shape_sums.proofs.lag_sums.Kinds as lag-sums-kinds
use Rattle.shape_sums.proofs.lag_sums.Reads as lag-sums-reads

lag_sums : Determined 1 lag-sums-kinds.ps lag-sums-kinds.r lag-sums-reads.Post
lag_sums κs a x y s t p q = itself p q
