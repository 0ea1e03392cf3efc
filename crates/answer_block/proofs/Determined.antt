-- Any two results that a contract allows for one input coincide: the law of `law_results`, cited for each public function of this crate.
use Rattle.law_results.proofs.Determined.{Determined, itself}
use Rattle.answer_block.proofs.block_told.Kinds as block-told-kinds
use Rattle.answer_block.proofs.block_told.Reads as block-told-reads
use Rattle.answer_block.proofs.rescue_told.Kinds as rescue-told-kinds
use Rattle.answer_block.proofs.rescue_told.Reads as rescue-told-reads

block_told : Determined 0 block-told-kinds.ps block-told-kinds.r block-told-reads.Post
block_told κs a x y s t p q = itself p q

rescue_told : Determined 0 rescue-told-kinds.ps rescue-told-kinds.r rescue-told-reads.Post
rescue_told κs a x y s t p q = itself p q
