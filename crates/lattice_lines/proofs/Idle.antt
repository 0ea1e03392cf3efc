-- A filter of order 0 leaves the lines of a band and the states alone, whichever the lattice is.
use mathlib.Core.Path.{◌≡◌, ap}
use mathlib.Core.List.{List}
use lib.Ieee.{Float, nan}
use Rattle.law_lists.proofs.InPlace.{lines_unchanged, state_unchanged}
use Rattle.lattice_lines.specs.Lattice.{Lattice, Idle, lines_by, states_by, Filtered}
use Rattle.lattice_lines.specs.declared.Passed.{Passed}

pub order_0 : (lattice : Lattice) → Idle lattice → (q states lines : List Float) → Filtered lattice q 0 states lines states lines
unfolding lines_by states_by
order_0 lattice idle q states lines =
    let becomes : List Float → Float → Float = λ s x. (lattice q 0 s x).t in
    let after : List Float → Float → List Float = λ s x. (lattice q 0 s x).states in
    let same_line : (s : List Float) (x : Float) → becomes s x ≡ x = λ s x. ap (λ (p : Passed). p.t) (idle q s x) in
    let same-states : (s : List Float) (x : Float) → after s x ≡ s = λ s x. ap (λ (p : Passed). p.states) (idle q s x) in
    record {
      states = state_unchanged becomes after nan same_line same-states states lines;
      lines = lines_unchanged becomes after nan same_line same-states states lines;
    }
