-- Any two results that a contract allows for one input coincide: the law of `law_results`, cited for each public function of this crate.
use Rattle.law_results.proofs.Determined.{Determined}
use Rattle.check_refusals.proofs.Determined.{by_verdict}
use Rattle.check_frame.proofs.check_frame.Kinds as check-frame-kinds
use Rattle.check_frame.proofs.check_frame.Reads as check-frame-reads

check_frame : Determined 0 check-frame-kinds.ps check-frame-kinds.r check-frame-reads.Post
check_frame κs a x y s t p q = by_verdict p q
