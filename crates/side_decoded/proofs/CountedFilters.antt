-- What none, one and two counted filters make of a spectrum from some states, and what filters of order 0 do: nothing.
use mathlib.Core.Path.{◌≡◌}
use mathlib.Core.List.{List}
use Prim.Native.Nat.{ℕ, zero, suc, ◌≤◌}
use native.Mathlib.Nat.{le_of_suc-le-suc, not-suc-le-zero}
use lib.Ieee.{Float}
use lib.ListN.{get_or, take, drop, length}
use Rattle.law_lists.specs.Counted.{counted}
use Rattle.law_lists.proofs.Counted.{none_of_them, one_of_them, two_of_them}
use Rattle.row_bands.specs.declared.Row.{Row}
use Rattle.row_bands.proofs.Bands.{SoundRow}
use Rattle.lattice_lines.specs.Lattice.{at_rest}
use Rattle.lattice_decoder.specs.DecoderLattice.{line_decoded, decoder_idle}
use Rattle.lattice_rows.specs.Filters.{Filter, FilteredIn, FilteredRow}
use Rattle.lattice_rows.proofs.Filters.{none_run, one_run, two_run, at_rest_lem, idle_filter}
use Rattle.side_decoded.specs.DecoderFilters.{decoder_filter, row_decoded}

module _ (row : Row) (orders indices : List ℕ) (lines : List Float) where
  -- the first filter, and the second
  abbrev pub first : Filter
  first = decoder_filter (get_or orders 0 0) (take 8 indices)

  abbrev pub second : Filter
  second = decoder_filter (get_or orders 1 0) (take 8 (drop 8 indices))

  module _ (start : List Float) where
    pub none_counted : FilteredRow line_decoded row (counted decoder_filter 0 orders indices) start lines start lines
    none_counted = rw (none_of_them decoder_filter orders indices) (none_run line_decoded row start lines)

    pub one_counted : (after left : List Float) → FilteredIn line_decoded row.first first start lines after left
        → FilteredRow line_decoded row (counted decoder_filter 1 orders indices) start lines after left
    one_counted after left a = rw (one_of_them decoder_filter orders indices) (one_run line_decoded row start lines first after left a)

    -- the same of a count that is none or one
    pub if_none : (filters : ℕ) → filters ≡ 0 → FilteredRow line_decoded row (counted decoder_filter filters orders indices) start lines start lines
    if_none filters e = rw e none_counted

    pub if_one : (filters : ℕ) (after left : List Float) → filters ≡ 1 → FilteredIn line_decoded row.first first start lines after left
        → FilteredRow line_decoded row (counted decoder_filter filters orders indices) start lines after left
    if_one filters after left e a = rw e (one_counted after left a)

    pub two_counted : (after left end result : List Float) → FilteredIn line_decoded row.first first start lines after left
        → FilteredIn line_decoded row.second second after left end result
        → FilteredRow line_decoded row (counted decoder_filter 2 orders indices) start lines end result
    two_counted after left end result a b =
        rw (two_of_them decoder_filter orders indices) (two_run line_decoded row start lines first second after left end result a b)

  -- from states at rest they leave the decoded spectrum
  pub row_is_decoded : (filters : ℕ) (after left : List Float) → FilteredRow line_decoded row (counted decoder_filter filters orders indices) at_rest lines after left
      → left ≡ row_decoded row filters orders indices lines
  unfolding row_decoded
  row_is_decoded filters after left run = at_rest_lem line_decoded row lines (counted decoder_filter filters orders indices) after left run

  -- where the counted filters have order 0, nothing changes
  module _ (sound : SoundRow row (length lines)) (first-idle : get_or orders 0 0 ≡ 0) where
    first_stays : FilteredIn line_decoded row.first first at_rest lines at_rest lines
    first_stays = idle_filter line_decoded decoder_idle row.first first first-idle at_rest lines sound.first_fits.order

    pub one_idle : lines ≡ row_decoded row 1 orders indices lines
    one_idle = row_is_decoded 1 at_rest lines (one_counted at_rest at_rest lines first_stays)

    pub all_idle : get_or orders 1 0 ≡ 0 → (filters : ℕ) → filters ≤ 2 → lines ≡ row_decoded row filters orders indices lines
    all_idle second-idle zero h = row_is_decoded 0 at_rest lines (none_counted at_rest)
    all_idle second-idle (suc zero) h = one_idle
    all_idle second-idle (suc (suc zero)) h =
        row_is_decoded 2 at_rest lines
        (two_counted at_rest at_rest lines at_rest lines first_stays (idle_filter line_decoded decoder_idle row.second second second-idle at_rest lines sound.second_fits.order))
    all_idle second-idle (suc (suc (suc filters))) h = absurd (not-suc-le-zero (le_of_suc-le-suc (le_of_suc-le-suc h)))
