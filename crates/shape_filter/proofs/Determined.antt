-- Any two results that a contract allows for one input coincide: the law of `law_results`, cited for `analyse`. The logic has one NaN, so of a gain
-- or a coefficient that is a NaN the bits are left open.
use Rattle.law_results.proofs.Determined.{Determined, itself}
use Rattle.shape_filter.proofs.analyse.Kinds as analyse-kinds
use Rattle.shape_filter.proofs.analyse.Reads as analyse-reads

analyse : Determined 1 analyse-kinds.ps analyse-kinds.r analyse-reads.Post
analyse κs a x y s t p q = itself p q
