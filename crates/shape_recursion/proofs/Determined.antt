-- Any two results that a contract allows for one input coincide: the law of `law_results`, cited for `predict`.
-- The logic has one NaN, so of a number that is a NaN the bits are left open.
use Rattle.law_results.proofs.Determined.{Determined, itself}
use Rattle.shape_recursion.proofs.predict.Kinds as predict-kinds
use Rattle.shape_recursion.proofs.predict.Reads as predict-reads

predict : Determined 0 predict-kinds.ps predict-kinds.r predict-reads.Post
predict κs a x y s t p q = itself p q
