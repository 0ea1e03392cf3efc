-- Any two results that a contract allows for one input coincide: the law of `law_results`, cited for each public function of this crate.
use Rattle.law_results.proofs.Determined.{Determined, itself}
use Rattle.row_bands.proofs.row_of.Kinds as row-of-kinds
use Rattle.row_bands.proofs.row_of.Reads as row-of-reads
use Rattle.row_bands.proofs.last_stop.Kinds as last-stop-kinds
use Rattle.row_bands.proofs.last_stop.Reads as last-stop-reads

row_of : Determined 0 row-of-kinds.ps row-of-kinds.r row-of-reads.Post
row_of κs a x y s t p q = itself p q

last_stop_lem : Determined 0 last-stop-kinds.ps last-stop-kinds.r last-stop-reads.Post
last_stop_lem κs a x y s t p q = itself p q
