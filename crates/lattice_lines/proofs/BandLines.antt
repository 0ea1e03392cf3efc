-- The laws of a loop that takes the lines of a band through a lattice, whichever it is, and of a run in two parts.
use mathlib.Core.Path.{◌≡◌, sym, ◌∙◌, ap}
use mathlib.Core.List.{List, ◌++◌}
use Prim.Native.Nat.{ℕ, ◌+◌, ◌<◌, ◌≤◌}
use lib.Ieee.{Float, nan}
use lib.ListN.{length, take, drop, get_or, set}
use Rattle.law_lists.proofs.InPlace.{one_more, state_more, none_left, state_left, through_length, lines_split, state_split}
use Rattle.lattice_lines.specs.Lattice.{Lattice, lines_by, states_by, Filtered}
use Rattle.lattice_lines.specs.declared.Passed.{Passed}

module _ (lattice : Lattice) (q : List Float) (order : ℕ) where
  -- what a line becomes, and the states after it
  abbrev becomes : List Float → Float → Float
  becomes states line = (lattice q order states line).t

  abbrev after : List Float → Float → List Float
  after states line = (lattice q order states line).states

  -- The lines below i are done: these, with what the definition makes of the rest from here, are what it makes of all, and so are the states.
  pub record Going (start found states lines : List Float) (i : ℕ) : Type 0 where
    pub lines_go_on : lines_by lattice q order start found ≡ take i lines ++ lines_by lattice q order states (drop i lines)
    pub states_go_on : states_by lattice q order start found ≡ states_by lattice q order states (drop i lines)

  pub one_line : (start found states lines : List Float) (i : ℕ) (p : Passed) → Going start found states lines i → i < length lines
      → p ≡ lattice q order states (get_or lines i nan) → Going start found p.states (set lines i p.t) (i + 1)
  unfolding lines_by states_by
  one_line start found states lines i p g below e =
      let t = ap (λ (p : Passed). p.t) e in
      let s = ap (λ (p : Passed). p.states) e in
      record {
        lines_go_on = g.lines_go_on ∙ one_more becomes after nan states p.states lines i p.t below t s;
        states_go_on = g.states_go_on ∙ state_more becomes after nan states p.states lines i p.t below s;
      }

  pub all_lines : (start found states lines : List Float) (i : ℕ) → Going start found states lines i → length lines ≤ i
      → Filtered lattice q order start found states lines
  unfolding lines_by states_by
  all_lines start found states lines i g end =
      record {
        states = sym (g.states_go_on ∙ state_left becomes after nan states lines i end);
        lines = sym (g.lines_go_on ∙ none_left becomes after nan states lines i end);
      }

  -- a filter leaves as many lines as it finds
  pub by_length : (states lines : List Float) → length (lines_by lattice q order states lines) ≡ length lines
  unfolding lines_by
  by_length states lines = through_length becomes after nan states lines

  -- lines in two parts: the second goes on from the states after the first
  pub by_parts : (states xs ys : List Float)
      → lines_by lattice q order states (xs ++ ys) ≡ lines_by lattice q order states xs ++ lines_by lattice q order (states_by lattice q order states xs) ys
  unfolding lines_by states_by
  by_parts states xs ys = lines_split becomes after nan states xs ys

  pub states_by_parts : (states xs ys : List Float)
      → states_by lattice q order states (xs ++ ys) ≡ states_by lattice q order (states_by lattice q order states xs) ys
  unfolding states_by
  states_by_parts states xs ys = state_split becomes after nan states xs ys
