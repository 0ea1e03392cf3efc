-- Any two results that a contract allows for one input coincide: the law of `law_results`, cited for each public function of this crate.
use Rattle.law_results.proofs.Determined.{Determined, itself}
use Rattle.shape_lags.proofs.autocorrelated.Kinds as autocorrelated-kinds
use Rattle.shape_lags.proofs.autocorrelated.Reads as autocorrelated-reads

autocorrelated : Determined 1 autocorrelated-kinds.ps autocorrelated-kinds.r autocorrelated-reads.Post
autocorrelated κs a x y s t p q = itself p q
