-- Any two results that a contract allows for one input coincide: the law of `law_results`, cited for `two_encoded`, which gives no result and
-- leaves the lines that were lent. The logic has one NaN, so of a line that is a NaN the bits are left open.
use mathlib.Core.Path.{refl}
use mathlib.Core.List.{List}
use lib.Ieee.{Float}
use Rattle.law_results.proofs.Determined.{DeterminedWith, itself}
use Rattle.side_encoded.proofs.two_encoded.Kinds as two-encoded-kinds
use Rattle.side_encoded.proofs.two_encoded.Reads as two-encoded-reads

two_encoded : DeterminedWith 1 two-encoded-kinds.ps two-encoded-kinds.r two-encoded-reads.Post (List Float) (λ κs s. s.1.1.0.now)
two_encoded κs a x y s t p q = (refl, itself p q)
