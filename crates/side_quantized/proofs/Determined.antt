-- Any two results that a contract allows for one input coincide: the law of `law_results`, cited for each public function of this crate.
-- Only coefficients are floats here, and no coefficient that is quantized is a NaN.
use Rattle.law_results.proofs.Determined.{Determined, itself}
use Rattle.side_quantized.proofs.quantize_all.Kinds as quantize-all-kinds
use Rattle.side_quantized.proofs.quantize_all.Reads as quantize-all-reads
use Rattle.side_quantized.proofs.none.Kinds as none-kinds
use Rattle.side_quantized.proofs.none.Reads as none_reads

quantize_all : Determined 0 quantize-all-kinds.ps quantize-all-kinds.r quantize-all-reads.Post
quantize_all κs a x y s t p q = itself p q

none : Determined 0 none-kinds.ps none-kinds.r none_reads.Post
none κs a x y s t p q = itself p q
