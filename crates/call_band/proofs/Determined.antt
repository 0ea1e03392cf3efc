-- Any two results that a contract allows for one input coincide: the law of `law_results`, cited for each public function of this crate. What
-- `band_lines` hands back is a reference: any two have one place and hold the same lines, and the ghost name that a borrow has is open.
use mathlib.Core.Path.{◌≡◌}
use contract.Lifetimes.{Lfts}
use denote.Triple.Clauses.{AtExit}
use borrow.Fn.Kinds.{Dens, res_t, ended_of}
use Rattle.law_results.proofs.Determined.{Determined, itself}
use Rattle.call_band.proofs.asked_band.Kinds as asked-band-kinds
use Rattle.call_band.proofs.asked_band.Reads as asked-band-reads
use Rattle.call_band.proofs.band_lines.Kinds as band-lines-kinds
use Rattle.call_band.proofs.band_lines.Reads as band-lines-reads

asked_band_lem : Determined 0 asked-band-kinds.ps asked-band-kinds.r asked-band-reads.Post
asked_band_lem κs a x y s t p q = itself p q

band_lines : (κs : Lfts 1) (a : Dens κs band-lines-kinds.ps) (x y : (res_t band-lines-kinds.r κs).Denot) (s t : AtExit (ended_of 1 band-lines-kinds.ps band-lines-kinds.r) κs)
    → band-lines-reads.Post κs a x s → band-lines-reads.Post κs a y t → (x.ref_ptr ≡ y.ref_ptr) × (x.now ≡ y.now)
band_lines κs a x y s t p q = (itself p.begins q.begins, itself p.lines q.lines)
