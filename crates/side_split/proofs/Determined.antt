-- Any two results that a contract allows for one input coincide: the law of `law_results`, cited for `row_saved` and `row_restarted`, and with it
-- what is left in the output that was lent. The logic has one NaN, so of a line or a state that is a NaN the bits are left open.
use mathlib.Core.Path.{refl}
use mathlib.Core.List.{List}
use lib.Ieee.{Float}
use Rattle.law_results.proofs.Determined.{DeterminedWith, itself}
use Rattle.side_split.proofs.row_saved.Kinds as row-saved-kinds
use Rattle.side_split.proofs.row_saved.Reads as row-saved-reads
use Rattle.side_split.proofs.row_restarted.Kinds as row-restarted-kinds
use Rattle.side_split.proofs.row_restarted.Reads as row-restarted-reads

row_saved : DeterminedWith 3 row-saved-kinds.ps row-saved-kinds.r row-saved-reads.Post (List Float) (λ κs s. s.1.1.1.0.now)
row_saved κs a x y s t p q = (itself p.before q.before, itself p.output q.output)

-- it has no result
row_restarted : DeterminedWith 3 row-restarted-kinds.ps row-restarted-kinds.r row-restarted-reads.Post (List Float) (λ κs s. s.1.1.1.0.now)
row_restarted κs a x y s t p q = (refl, itself p q)
