-- Any two results that a contract allows for one input coincide: the law of `law_results`, cited for each public function of this crate.
use Rattle.law_results.proofs.Determined.{Determined, itself}
use Rattle.block_bytes.proofs.block_of.Kinds as block-of-kinds
use Rattle.block_bytes.proofs.block_of.Reads as block-of-reads
use Rattle.block_bytes.proofs.numbered.Kinds as numbered-kinds
use Rattle.block_bytes.proofs.numbered.Reads as numbered-reads
use Rattle.block_bytes.proofs.with_sums.Kinds as with-sums-kinds
use Rattle.block_bytes.proofs.with_sums.Reads as with-sums-reads

block_of : Determined 1 block-of-kinds.ps block-of-kinds.r block-of-reads.Post
block_of κs a x y s t p q = itself p q

with_sums : Determined 0 with-sums-kinds.ps with-sums-kinds.r with-sums-reads.Post
with_sums κs a x y s t p q = itself p q

numbered : Determined 0 numbered-kinds.ps numbered-kinds.r numbered-reads.Post
numbered κs a x y s t p q = itself p q
