-- What the runs of save and restart leave: both over a copy of the spectrum in the output, of which restart has only the lines from line n on.
use mathlib.Core.Path.{◌≡◌, sym, ◌∙◌, ap, subst}
use mathlib.Core.List.{List, ◌++◌}
use Prim.Native.Nat.{ℕ, ◌≤◌}
use native.Mathlib.Omega.{arith}
use lib.Ieee.{Float}
use lib.ListN.{length, take, drop, length-append, length-drop, take-append-drop}
use lib.Seq.{length-take-le, take_at, drop_at}
use Rattle.law_lists.specs.Counted.{counted}
use Rattle.row_bands.specs.declared.Row.{Row}
use Rattle.row_bands.proofs.Bands.{SoundRow}
use Rattle.check_line.proofs.LineChecks.{Ready}
use Rattle.lattice_lines.specs.Lattice.{at_rest}
use Rattle.lattice_decoder.specs.DecoderLattice.{line_decoded}
use Rattle.lattice_rows.specs.Filters.{Filter, FilteredRow}
use Rattle.lattice_rows.specs.Split.{row_below_line, row_from_line}
use Rattle.lattice_rows.proofs.Split.{row_below_sound, row_from_sound, two_runs}
use Rattle.lattice_rows.proofs.EitherSide.{same_rest, below_stay}
use Rattle.side_decoded.specs.DecoderFilters.{decoder_filter}
use Rattle.side_split.specs.SplitRun.{states_before, lines_from, SavedRow}
use Rattle.side_decoded.proofs.CountedFilters.{row_is_decoded}

module _ (n : ℕ) (row : Row) (filters : ℕ) (orders indices : List ℕ) (xs : List Float) (output : ℕ) (r : Ready row filters orders indices (length xs) n output) where
  abbrev acting : List Filter
  acting = counted decoder_filter filters orders indices

  -- a part of the row lies within any lines of the same number
  pub below_fits_copy : (below : Row) (copied : ℕ) → below ≡ row_below_line n row → copied ≡ length xs → SoundRow below copied
  below_fits_copy below copied e l = rw (e, l) (row_below_sound n row (length xs) r.bands)

  pub from_fits_copy : (from : Row) (copied : ℕ) → from ≡ row_from_line n row → copied ≡ length xs → SoundRow from copied
  from_fits_copy from copied e l = rw (e, l) (row_from_sound n row (length xs) r.there r.bands)

  -- save: one run below the line, one from it on
  pub saved : (below from : Row) → below ≡ row_below_line n row → from ≡ row_from_line n row
      → (copied before ys after zs : List Float) → copied ≡ xs → FilteredRow line_decoded below acting at_rest copied before ys
      → FilteredRow line_decoded from acting before ys after zs → SavedRow n row filters orders indices xs zs before
  unfolding states_before
  saved below from eb ef copied before ys after zs ec b c =
      let first : FilteredRow line_decoded (row_below_line n row) acting at_rest xs before ys = rw (← eb, ← ec) b in
      let rest : FilteredRow line_decoded (row_from_line n row) acting before ys after zs = rw (← ef) c in
      record {
        output = row_is_decoded row orders indices xs filters after zs (two_runs line_decoded n row r.in_turn at_rest xs r.bands r.there acting before ys after zs first rest);
        before = first.states;
      }

  -- restart: one run from the line on, over the lines of the output below it and those of the spectrum from it on
  module _ (found : List Float) (long : length found ≡ output) where
    abbrev over : List Float
    over = take n found ++ drop n xs

    taken : length (take n found) ≡ n
    taken = length-take-le n found (omega (arith, r.as_long, r.there))

    pub over_length : length (take n found ++ drop n xs) ≡ length xs
    over_length = length-append (take n found) (drop n xs) ∙ omega (arith, taken, length-drop n xs, r.there)

    over_sound : SoundRow row (length over)
    over_sound = subst (λ (k : ℕ). SoundRow row k) (sym over_length) r.bands

    pub restarted : (from : Row) → from ≡ row_from_line n row → (copied states after left : List Float) → copied ≡ take n found ++ drop n xs
        → FilteredRow line_decoded from acting states copied after left → left ≡ take n found ++ lines_from n row filters orders indices states xs
    unfolding lines_from
    restarted from ef copied states after left ec c =
        let run : FilteredRow line_decoded (row_from_line n row) acting states over after left = rw (← ef, ← ec) c in
        let reaches : n ≤ length over = omega (arith, over_length, r.there) in
        let below : take n left ≡ take n found =
        ap (take n) run.lines
        ∙ below_stay line_decoded n row states over over_sound reaches acting
        ∙ take_at (take n found) (drop n xs) n taken
        in
        let rest = ap (drop n) run.lines
        ∙ same_rest line_decoded n row states over xs over_sound r.bands reaches r.there (drop_at (take n found) (drop n xs) n taken) acting
        in
        sym (take-append-drop n left) ∙ rw (below, rest)
