-- Any two results that a contract allows for one input coincide: the law of `law_results`, cited for `decode`, and with it what is left in the lines
-- that were lent. The logic has one NaN, so of a line that is a NaN the bits are left open.
use mathlib.Core.List.{List}
use lib.Ieee.{Float}
use Rattle.law_results.proofs.Determined.{DeterminedWith, itself}
use Rattle.check_refusals.proofs.Determined.{by_verdict}
use Rattle.call_decode.proofs.decode.Kinds as decode-kinds
use Rattle.call_decode.proofs.decode.Reads as decode-reads

decode : DeterminedWith 3 decode-kinds.ps decode-kinds.r decode-reads.Post (List Float) (λ κs s. s.1.1.1.1.1.0.now)
decode κs a x y s t p q = (by_verdict p.answer q.answer, itself p.lines q.lines)
