-- Any two results that a contract allows for one input coincide: the law of `law_results`, cited for the public function of this crate.
use Rattle.law_results.proofs.Determined.{Determined, itself}
use Rattle.block_record.proofs.is_sound.Kinds as is-sound-kinds
use Rattle.block_record.proofs.is_sound.Reads as is-sound-reads

is_sound : Determined 1 is-sound-kinds.ps is-sound-kinds.r is-sound-reads.Post
is_sound κs a x y s t p q = itself p q
