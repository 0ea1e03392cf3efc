-- Any two results that a contract allows for one input coincide: the law of `law_results`, cited for each public function of this crate.
-- Only coefficients are floats here, and no coefficient that is quantized is a NaN.
use Rattle.law_results.proofs.Determined.{Determined, itself}
use Rattle.side_data.proofs.bytes_of.Kinds as bytes-of-kinds
use Rattle.side_data.proofs.bytes_of.Reads as bytes-of-reads
use Rattle.side_data.proofs.coefficients_of.Kinds as coefficients-of-kinds
use Rattle.side_data.proofs.coefficients_of.Reads as coefficients-of-reads

bytes_of : Determined 0 bytes-of-kinds.ps bytes-of-kinds.r bytes-of-reads.Post
bytes_of κs a x y s t p q = itself p q

coefficients_of_lem : Determined 0 coefficients-of-kinds.ps coefficients-of-kinds.r coefficients-of-reads.Post
coefficients_of_lem κs a x y s t p q = itself p q
