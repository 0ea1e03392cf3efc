-- Any two results that a contract allows for one input coincide: the law of `law_results`, cited for `analyse_frame`. The logic has one NaN, so of
-- a coefficient that is a NaN the bits are left open.
use Rattle.law_results.proofs.Determined.{Determined, itself}
use Rattle.shape_frame.proofs.analyse_frame.Kinds as analyse-frame-kinds
use Rattle.shape_frame.proofs.analyse_frame.Reads as analyse-frame-reads

analyse_frame : Determined 1 analyse-frame-kinds.ps analyse-frame-kinds.r analyse-frame-reads.Post
analyse_frame κs a x y s t p q = itself p q
