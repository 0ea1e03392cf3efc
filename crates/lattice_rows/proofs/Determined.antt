-- Any two results that a contract allows for one input coincide: the law of `law_results`, cited for each public function of this crate.
use Rattle.law_results.proofs.Determined.{Determined, itself}
use Rattle.lattice_rows.proofs.row_below_line.Kinds as row-below-line-kinds
use Rattle.lattice_rows.proofs.row_below_line.Reads as row-below-line-reads
use Rattle.lattice_rows.proofs.row_from_line.Kinds as row-from-line-kinds
use Rattle.lattice_rows.proofs.row_from_line.Reads as row-from-line-reads

row_below_line_lem : Determined 0 row-below-line-kinds.ps row-below-line-kinds.r row-below-line-reads.Post
row_below_line_lem κs a x y s t p q = itself p q

row_from_line_lem : Determined 0 row-from-line-kinds.ps row-from-line-kinds.r row-from-line-reads.Post
row_from_line_lem κs a x y s t p q = itself p q
