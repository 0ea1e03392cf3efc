-- Laws of the filters of a row, for either lattice: what none, one and two of them leave, what a filter of order 0 leaves, each band's lines
-- afterwards, and that a line outside the bands stays. Filters beyond the second have no band.
use mathlib.Core.Path.{◌≡◌, refl, sym, ◌∙◌, ap, subst}
use mathlib.Core.Logic.{⊎_swap}
use mathlib.Core.List.{List, [], ◌∷◌, ◌++◌}
use Prim.Native.Nat.{ℕ, zero, suc, ◌-◌, ◌≤◌, ◌<◌, min}
use native.Mathlib.Omega.{arith}
use lib.Ieee.{Float, nan}
use lib.ListN.{length, get_or, take, drop, take-append-drop}
use Rattle.law_lists.specs.Lines.{lines_through, state_through}
use Rattle.law_lists.proofs.Orders.{within_8}
use Rattle.row_bands.specs.Bands.{band_of, inside, within}
use Rattle.row_bands.specs.declared.Band.{Band}
use Rattle.row_bands.specs.declared.Row.{Row}
use Rattle.row_bands.proofs.Bands.{Fits, SoundRow, band_kept, band_back}
use Rattle.row_bands.proofs.Apart.{Outside, Apart, within_length, within_outside, inside_within, inside_other}
use Rattle.lattice_lines.specs.Lattice.{Lattice, Idle, at_rest, lines_by, states_by, Filtered}
use Rattle.lattice_lines.proofs.BandLines.{by_length}
use Rattle.lattice_lines.proofs.Idle.{order_0}
use Rattle.lattice_rows.specs.Filters.{Filter, bands_run, row_filtered, FilteredIn, FilteredRow}

-- ---- what a filter makes of some lines, from some states

module _ (lattice : Lattice) where
  abbrev pub change : Filter → List Float → List Float → List Float
  change f states lines = lines_by lattice f.coefficients f.order states lines

  abbrev pub leaves : Filter → List Float → List Float → List Float
  leaves f states lines = states_by lattice f.coefficients f.order states lines

  -- what a filter makes of its band's lines, given those of both bands: the second goes on from the states after the first
  unfoldable pub part_filtered : List Filter → ℕ → List Float → List Float → List Float
  part_filtered [] k first second = []
  part_filtered (f ∷ []) zero first second = change f at_rest first
  part_filtered (f ∷ []) (suc k) first second = []
  part_filtered (f ∷ g ∷ filters) zero first second = change f at_rest first
  part_filtered (f ∷ g ∷ filters) (suc zero) first second = change g (leaves f at_rest first) second
  part_filtered (f ∷ g ∷ filters) (suc (suc k)) first second = []

  -- ---- none, one and two filters, one after the other

  module _ (row : Row) (start xs : List Float) where
    pub none_run : FilteredRow lattice row [] start xs start xs
    unfolding bands_run
    none_run = record { states = refl; lines = refl }

    pub one_run : (f : Filter) (after left : List Float) → FilteredIn lattice row.first f start xs after left → FilteredRow lattice row (f ∷ []) start xs after left
    unfolding bands_run
    one_run f after left a = record { states = a.states; lines = a.lines }

    pub two_run : (f g : Filter) (after left end result : List Float) → FilteredIn lattice row.first f start xs after left
        → FilteredIn lattice row.second g after left end result → FilteredRow lattice row (f ∷ g ∷ []) start xs end result
    unfolding bands_run
    two_run f g after left end result a b = record { states = rw (b.states, a.lines, a.states); lines = rw (b.lines, a.lines, a.states) }

  module _ (row : Row) (xs : List Float) where
    -- from states at rest
    pub at_rest_lem : (filters : List Filter) (after left : List Float) → FilteredRow lattice row filters at_rest xs after left → left ≡ row_filtered lattice row filters xs
    unfolding row_filtered
    at_rest_lem filters after left run = run.lines

    pub two_filtered : (f g : Filter) (after left end result : List Float) → FilteredIn lattice row.first f at_rest xs after left
        → FilteredIn lattice row.second g after left end result → result ≡ row_filtered lattice row (f ∷ g ∷ []) xs
    two_filtered f g after left end result a b = at_rest_lem (f ∷ g ∷ []) end result (two_run row at_rest xs f g after left end result a b)

  -- what a filter leaves of any spectrum, by its definition
  pub acting : (band : Band) (f : Filter) (states lines : List Float)
      → FilteredIn lattice band f states lines (leaves f states (inside band lines)) (within band (change f states) lines)
  acting band f states lines = record { states = refl; lines = refl }

  -- a filter whose band has no line leaves the spectrum and the states as they are
  pub no_lines : (band : Band) → band.start ≡ band.stop → (f : Filter) (states lines : List Float) → FilteredIn lattice band f states lines states lines
  unfolding lines_by states_by lines_through state_through
  no_lines band e f states lines =
      let none : band.stop - band.stop ≡ 0 = omega arith in
      record { states = rw (e, none); lines = rw (e, none) (sym (take-append-drop band.stop lines)) }

  -- a filter of order 0 leaves the spectrum and the states as they are
  pub idle_filter : Idle lattice → (band : Band) (f : Filter) → f.order ≡ 0 → (states lines : List Float) → band.start ≤ band.stop
      → FilteredIn lattice band f states lines states lines
  idle_filter idle band f e states lines h =
      let stays = order_0 lattice idle f.coefficients states (inside band lines) in
      let q = f.coefficients in
      record {
        states = stays.states ∙ ap (λ (o : ℕ). states_by lattice q o states (inside band lines)) (sym e);
        lines = band_kept band (lines_by lattice q f.order states) lines h (stays.lines ∙ ap (λ (o : ℕ). lines_by lattice q o states (inside band lines)) (sym e));
      }

  -- ---- a row whose bands lie within the lines

  module _ (row : Row) (xs : List Float) (sound : SoundRow row (length xs)) where
    -- one filter
    module _ (f : Filter) where
      one : List Float
      one = within row.first (change f at_rest) xs

      first_long : length (change f at_rest (inside row.first xs)) ≡ length (inside row.first xs)
      first_long = by_length lattice _ _ _ _

      one_length : length one ≡ length xs
      unfolding one
      one_length = within_length row.first (change f at_rest) xs sound.first_fits first_long

      one_outside : (i : ℕ) → Outside row.first i → get_or one i nan ≡ get_or xs i nan
      unfolding one
      one_outside i o = within_outside row.first (change f at_rest) xs sound.first_fits first_long i o

      first_of_one : inside row.first one ≡ change f at_rest (inside row.first xs)
      unfolding one
      first_of_one = inside_within row.first (change f at_rest) xs sound.first_fits first_long

      second_of_one : Apart row.first row.second → inside row.second one ≡ inside row.second xs
      unfolding one
      second_of_one apart = inside_other row.first (change f at_rest) xs sound.first_fits first_long row.second sound.second_fits (⊎_swap apart)

      fits_one : (band : Band) → Fits band (length xs) → Fits band (length one)
      fits_one band its = subst (λ (n : ℕ). Fits band n) (sym one_length) its

      -- and a second
      module _ (g : Filter) where
        abbrev next : List Float → List Float
        next = change g (leaves f at_rest (inside row.first xs))

        both : List Float
        both = within row.second next one

        second_long : length (next (inside row.second one)) ≡ length (inside row.second one)
        second_long = by_length lattice _ _ _ _

        both_length : length both ≡ length xs
        unfolding both
        both_length = within_length row.second next one (fits_one row.second sound.second_fits) second_long ∙ one_length

        both_outside : (i : ℕ) → Outside row.first i → Outside row.second i → get_or both i nan ≡ get_or xs i nan
        unfolding both
        both_outside i o p = within_outside row.second next one (fits_one row.second sound.second_fits) second_long i p ∙ one_outside i o

        module _ (apart : Apart row.first row.second) where
          first_of_both : inside row.first both ≡ change f at_rest (inside row.first xs)
          unfolding both
          first_of_both =
              inside_other row.second next one (fits_one row.second sound.second_fits) second_long row.first (fits_one row.first sound.first_fits) apart
              ∙ first_of_one

          second_of_both : inside row.second both ≡ next (inside row.second xs)
          unfolding both
          second_of_both =
              inside_within row.second next one (fits_one row.second sound.second_fits) second_long ∙ ap next (second_of_one apart)

    -- as many lines as there were
    pub filtered_length : (filters : List Filter) → length (row_filtered lattice row filters xs) ≡ length xs
    unfolding row_filtered bands_run one both
    filtered_length [] = refl
    filtered_length (f ∷ []) = one_length f
    filtered_length (f ∷ g ∷ filters) = both_length f g

    -- a line outside the filters' bands stays
    pub filtered_outside : (filters : List Filter) (i : ℕ) → ((k : ℕ) → k < length filters → Outside (band_of row k) i)
        → get_or (row_filtered lattice row filters xs) i nan ≡ get_or xs i nan
    unfolding row_filtered bands_run one both
    filtered_outside [] i o = refl
    filtered_outside (f ∷ []) i o = one_outside f i (o 0 (omega arith))
    filtered_outside (f ∷ g ∷ filters) i o = both_outside f g i (o 0 (omega arith)) (o 1 (omega arith))

    -- what a filter's band becomes depends on the lines of the bands alone
    pub filtered_inside : Apart row.first row.second → (filters : List Filter) (k : ℕ) → k < length filters
        → inside (band_of row k) (row_filtered lattice row filters xs) ≡ part_filtered filters k (inside row.first xs) (inside row.second xs)
    unfolding row_filtered bands_run one both part_filtered
    filtered_inside apart [] k h = absurd (omega arith)
    filtered_inside apart (f ∷ []) zero h = first_of_one f
    filtered_inside apart (f ∷ []) (suc k) h = absurd (omega arith)
    filtered_inside apart (f ∷ g ∷ filters) zero h = first_of_both f g apart
    filtered_inside apart (f ∷ g ∷ filters) (suc zero) h = second_of_both f g apart
    filtered_inside apart (f ∷ g ∷ filters) (suc (suc k)) h = refl

  -- two spectra that agree inside the filters' bands are left so
  pub same_inside : (row : Row) (xs ys : List Float) → SoundRow row (length xs) → SoundRow row (length ys) → Apart row.first row.second
      → (filters : List Filter) → ((k : ℕ) → k < length filters → inside (band_of row k) xs ≡ inside (band_of row k) ys)
      → (k : ℕ) → k < length filters → inside (band_of row k) (row_filtered lattice row filters xs) ≡ inside (band_of row k) (row_filtered lattice row filters ys)
  unfolding part_filtered
  same_inside row xs ys sx sy apart filters agree k h =
      filtered_inside row xs sx apart filters k h ∙ parts filters agree k h ∙ sym (filtered_inside row ys sy apart filters k h)
    where
      parts : (filters : List Filter) → ((k : ℕ) → k < length filters → inside (band_of row k) xs ≡ inside (band_of row k) ys)
          → (k : ℕ) → k < length filters
          → part_filtered filters k (inside row.first xs) (inside row.second xs) ≡ part_filtered filters k (inside row.first ys) (inside row.second ys)
      parts [] agree k h = absurd (omega arith)
      parts (f ∷ []) agree zero h = rw (agree 0 h)
      parts (f ∷ []) agree (suc k) h = absurd (omega arith)
      parts (f ∷ g ∷ filters) agree zero h = rw (agree 0 h)
      parts (f ∷ g ∷ filters) agree (suc zero) h = rw (agree 0 (omega arith), agree 1 h)
      parts (f ∷ g ∷ filters) agree (suc (suc k)) h = refl

  -- a band that was lent to the lattice comes back filtered, and the rest of the spectrum as it was
  pub lent_back : (band : Band) (f : Filter) → f.order ≤ 8 → (q start found after left : List Float) → q ≡ f.coefficients → band.start ≤ band.stop
      → Filtered lattice q (min f.order 8) start (inside band found) after left
      → FilteredIn lattice band f start found after (take band.start found ++ (left ++ drop (band.stop - band.start) (drop band.start found)))
  lent_back band f few q start found after left e h given =
      let at-order : Filtered lattice f.coefficients f.order start (inside band found) after left = rw (← e) (rw (within_8 f.order few) at given) in
      record {
        states = at-order.states;
        lines =
            ap (λ (l : List Float). take band.start found ++ (l ++ drop (band.stop - band.start) (drop band.start found))) at-order.lines
            ∙ band_back band found (lines_by lattice f.coefficients f.order start (inside band found)) h;
      }
