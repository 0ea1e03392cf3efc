-- Any two results that a contract allows for one input coincide: the law of `law_results`, cited for each public function of this crate. The results
-- are floats, and no coefficient is a NaN.
use Rattle.law_results.proofs.Determined.{Determined, itself}
use Rattle.index_coefficients.proofs.coefficient_of.Kinds as coefficient-of-kinds
use Rattle.index_coefficients.proofs.coefficient_of.Reads as coefficient-of-reads
use Rattle.index_coefficients.proofs.eight_coefficients.Kinds as eight-coefficients-kinds
use Rattle.index_coefficients.proofs.eight_coefficients.Reads as eight-coefficients-reads

coefficient_of_lem : Determined 0 coefficient-of-kinds.ps coefficient-of-kinds.r coefficient-of-reads.Post
coefficient_of_lem κs a x y s t p q = itself p q

eight_coefficients : Determined 0 eight-coefficients-kinds.ps eight-coefficients-kinds.r eight-coefficients-reads.Post
eight_coefficients κs a x y s t p q = itself p q
