-- Any two results that a contract allows for one input coincide: the law of `law_results`, cited for `filters_decoded`, and with it what is left in
-- the lines that were lent. The logic has one NaN, so of a line or a state that is a NaN the bits are left open.
use mathlib.Core.List.{List}
use lib.Ieee.{Float}
use Rattle.law_results.proofs.Determined.{DeterminedWith, itself}
use Rattle.side_decoded.proofs.filters_decoded.Kinds as filters-decoded-kinds
use Rattle.side_decoded.proofs.filters_decoded.Reads as filters-decoded-reads

filters_decoded : DeterminedWith 2 filters-decoded-kinds.ps filters-decoded-kinds.r filters-decoded-reads.Post (List Float) (λ κs s. s.1.1.1.0.now)
filters_decoded κs a x y s t p q = (itself p.states q.states, itself p.lines q.lines)
