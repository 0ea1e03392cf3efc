-- Any two results that a contract allows for one input coincide: the law of `law_results`, cited for `band_filtered`, whichever the lattice is, and with
-- it what is left in the lines that were lent. The logic has one NaN, so of a number that is a NaN the bits are left open.
use mathlib.Core.List.{List}
use lib.Ieee.{Float}
use denote.RattleType.{RattleType}
use denote.Param.Laws.{Laws}
use mir.Syntax.{Dict}
use Rattle.law_results.proofs.Determined.{DeterminedWith, itself}
use Rattle.lattice_lines.specs.declared.Lattice.{Ghosts}
use Rattle.lattice_bands.proofs.band_filtered.Kinds as kinds
use Rattle.lattice_bands.proofs.band_filtered.Reads as reads

module _ (L : RattleType) (laws : Laws L) (lattice : Ghosts L.Denot) (methods : Dict) where
  band_filtered : DeterminedWith 2 (kinds.ps L laws) (kinds.r L laws) (reads.Post L laws lattice methods) (List Float) (λ κs s. s.1.1.1.0.now)
  band_filtered κs a x y s t p q = (itself p.states q.states, itself p.lines q.lines)
