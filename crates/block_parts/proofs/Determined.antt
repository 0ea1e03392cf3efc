-- Any two results that a contract allows for one input coincide: the law of `law_results`, cited for each public function of this crate.
use Rattle.law_results.proofs.Determined.{Determined, itself}
use Rattle.block_parts.proofs.all_sound.Kinds as all-sound-kinds
use Rattle.block_parts.proofs.all_sound.Reads as all-sound-reads
use Rattle.block_parts.proofs.are_sums_right.Kinds as are-sums-right-kinds
use Rattle.block_parts.proofs.are_sums_right.Reads as are-sums-right-reads
use Rattle.block_parts.proofs.is_header_right.Kinds as is-header-right-kinds
use Rattle.block_parts.proofs.is_header_right.Reads as is-header-right-reads
use Rattle.block_parts.proofs.is_number_right.Kinds as is-number-right-kinds
use Rattle.block_parts.proofs.is_number_right.Reads as is-number-right-reads
use Rattle.block_parts.proofs.is_fill_right.Kinds as is-fill-right-kinds
use Rattle.block_parts.proofs.is_fill_right.Reads as is-fill-right-reads

all_sound : Determined 1 all-sound-kinds.ps all-sound-kinds.r all-sound-reads.Post
all_sound κs a x y s t p q = itself p q

are_sums_right : Determined 1 are-sums-right-kinds.ps are-sums-right-kinds.r are-sums-right-reads.Post
are_sums_right κs a x y s t p q = itself p q

is_header_right : Determined 1 is-header-right-kinds.ps is-header-right-kinds.r is-header-right-reads.Post
is_header_right κs a x y s t p q = itself p q

is_number_right : Determined 1 is-number-right-kinds.ps is-number-right-kinds.r is-number-right-reads.Post
is_number_right κs a x y s t p q = itself p q

is_fill_right : Determined 1 is-fill-right-kinds.ps is-fill-right-kinds.r is-fill-right-reads.Post
is_fill_right κs a x y s t p q = itself p q
