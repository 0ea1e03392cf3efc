-- Any two results that a contract allows for one input coincide: the law of `law_results`, cited for each public function of this crate.
use Rattle.law_results.proofs.Determined.{Determined, itself}
use Rattle.block_numbers.proofs.word_of.Kinds as word-of-kinds
use Rattle.block_numbers.proofs.word_of.Reads as word-of-reads
use Rattle.block_numbers.proofs.sums_of.Kinds as sums-of-kinds
use Rattle.block_numbers.proofs.sums_of.Reads as sums-of-reads

word_of : Determined 0 word-of-kinds.ps word-of-kinds.r word-of-reads.Post
word_of κs a x y s t p q = itself p q

sums_of_lem : Determined 1 sums-of-kinds.ps sums-of-kinds.r sums-of-reads.Post
sums_of_lem κs a x y s t p q = itself p q
