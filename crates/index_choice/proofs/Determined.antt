-- Any two results that a contract allows for one input coincide: the law of `law_results`, cited for each public function of this crate.
use Rattle.law_results.proofs.Determined.{Determined, itself}
use Rattle.index_choice.proofs.index_of.Kinds as index-of-kinds
use Rattle.index_choice.proofs.index_of.Reads as index-of-reads
use Rattle.index_choice.proofs.order_of.Kinds as order-of-kinds
use Rattle.index_choice.proofs.order_of.Reads as order-of-reads

index_of : Determined 0 index-of-kinds.ps index-of-kinds.r index-of-reads.Post
index_of κs a x y s t p q = itself p q

order_of : Determined 0 order-of-kinds.ps order-of-kinds.r order-of-reads.Post
order_of κs a x y s t p q = itself p q
