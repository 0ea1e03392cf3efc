-- Any two results that a contract allows for one input coincide: the law of `law_results`, cited for each public function of this crate.
-- The logic has one NaN, so of a number that is a NaN the bits are left open.
use Rattle.law_results.proofs.Determined.{Determined, itself}
use Rattle.shape_reflections.proofs.damped_row.Kinds as damped-row-kinds
use Rattle.shape_reflections.proofs.damped_row.Reads as damped-row-reads
use Rattle.shape_reflections.proofs.reflected_row.Kinds as reflected-row-kinds
use Rattle.shape_reflections.proofs.reflected_row.Reads as reflected-row-reads

damped_row : Determined 0 damped-row-kinds.ps damped-row-kinds.r damped-row-reads.Post
damped_row κs a x y s t p q = itself p q

reflected_row : Determined 0 reflected-row-kinds.ps reflected-row-kinds.r reflected-row-reads.Post
reflected_row κs a x y s t p q = itself p q
