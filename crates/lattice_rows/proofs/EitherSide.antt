-- docs/RULES.md, "Restart at a line (C-22)": on either side of a line the filters of a row do what the lines of that side decide. Below it: the lines there, and the filters whose
-- band begins there, decide what the lines become and the states at the line. From it on: the lines from there on, and the states at the line. And
-- neither side writes to the other.
use mathlib.Core.Path.{◌≡◌, refl, sym, ◌∙◌, ap, subst}
use mathlib.Core.List.{List, [], ◌∷◌, ◌++◌, append_assoc}
use Prim.Native.Nat.{ℕ, ◌+◌, ◌-◌, ◌≤◌, min, max}
use native.Mathlib.Decide.{dec_lt}
use native.Mathlib.Omega.{arith}
use lib.Ieee.{Float}
use lib.ListN.{length, take, drop}
use lib.Seq.{length-take-le, take-take, drop-drop, take-append-le, drop-append-le, take-append-add}
use Rattle.law_lists.specs.Places.{part}
use Rattle.law_lists.proofs.Parts.{drop_take, part_of_first, part_of_rest}
use Rattle.row_bands.specs.declared.Band.{Band}
use Rattle.row_bands.specs.declared.Row.{Row}
use Rattle.row_bands.proofs.Bands.{Fits, SoundRow}
use Rattle.row_bands.proofs.Apart.{InTurn}
use Rattle.lattice_lines.specs.Lattice.{Lattice}
use Rattle.lattice_lines.proofs.BandLines.{by_length}
use Rattle.lattice_rows.specs.Filters.{Filter, LinesAndStates, bands_run, row_run}
use Rattle.lattice_rows.specs.Split.{band_below_line, band_from_line, row_below_line, row_from_line, Begins}
use Rattle.lattice_rows.proofs.Filters.{change}
use Rattle.lattice_rows.proofs.Split.{below_fits, from_fits, done_length, from_z, None, acted, acted_none, acted_length, beyond, row_in_two}

-- ---- a change within a band on one side of the line, whatever it is

-- from the line on: the lines below it stay, and the others are decided by those from the line on
module _ (n a z : ℕ) (from : n ≤ a) (to : a ≤ z) (xs : List Float) (end : a ≤ length xs) (c : List Float → List Float) where
  reaches : n ≤ length (take a xs)
  reaches = omega (arith, length-take-le a xs end)

  lines_below_stay : take n (take a xs ++ (c (part a z xs) ++ drop z xs)) ≡ take n xs
  lines_below_stay = take-append-le n (take a xs) _ reaches ∙ take-take n a xs from

  lines_from : drop n (take a xs ++ (c (part a z xs) ++ drop z xs))
      ≡ take (a - n) (drop n xs) ++ (c (part (a - n) (z - n) (drop n xs)) ++ drop (z - n) (drop n xs))
  lines_from =
      let place : n + (z - n) ≡ z = omega arith in
      let rest : drop (z - n) (drop n xs) ≡ drop z xs = drop-drop (z - n) n xs ∙ ap (λ (k : ℕ). drop k xs) place in
      drop-append-le n (take a xs) _ reaches
      ∙ rw (drop_take n a xs, part_of_rest n a z xs from, rest)

-- below the line: the lines from it on stay, and the others are decided by those below the line
module _ (n a z : ℕ) (order : a ≤ z) (to : z ≤ n) (xs : List Float) (end : z ≤ length xs) (c : List Float → List Float)
    (as_long : length (c (part a z xs)) ≡ length (part a z xs)) where
  lines_from_stay : drop n (take a xs ++ (c (part a z xs) ++ drop z xs)) ≡ drop n xs
  lines_from_stay = from_z a z n xs order to end c c c as_long

  lines_below : take n (take a xs ++ (c (part a z xs) ++ drop z xs)) ≡ take a (take n xs) ++ (c (part a z (take n xs)) ++ drop z (take n xs))
  lines_below =
      let done = take a xs ++ c (part a z xs) in
      let many : length done + (n - z) ≡ n = omega (arith, done_length a z n xs order to end c c c as_long) in
      ap (take n) (sym (append_assoc (take a xs) (c (part a z xs)) (drop z xs)))
      ∙ ap (λ (k : ℕ). take k (done ++ drop z xs)) (sym many)
      ∙ take-append-add done (drop z xs) (n - z)
      ∙ append_assoc (take a xs) (c (part a z xs)) (take (n - z) (drop z xs))
      ∙ rw (take-take a n xs (omega arith), part_of_first a z n xs to, drop_take z n xs)

-- ---- one filter

-- two runs that are the same below the line, and two that are the same from it on
pub record SameBelow (n : ℕ) (r t : LinesAndStates) : Type 0 where
  pub lines : take n r.lines ≡ take n t.lines
  pub states : r.states ≡ t.states

pub record SameFrom (n : ℕ) (r t : LinesAndStates) : Type 0 where
  pub lines : drop n r.lines ≡ drop n t.lines
  pub states : r.states ≡ t.states

module _ (lattice : Lattice) (n : ℕ) (band : Band) where
  -- a band that does not begin below the line has no part there
  none_below : (lines : ℕ) → Fits band lines → (Begins n band → ⊥) → None (band_below_line n band)
  none_below lines fits not = elim (dec_lt band.start n) [
    | yes low ↦
        elim (dec_lt band.start band.stop) [
          | yes some ↦ absurd (not (low, some))
          | no none ↦ omega (arith, fits.order)
        ]
    | no high ↦ (beyond lattice n band fits.order (omega arith)).0
  ]

  acted_below : (f g : Filter) (r t : LinesAndStates) → Fits band (length r.lines) → Fits band (length t.lines) → (Begins n band → f ≡ g) → SameBelow n r t
      → SameBelow n (acted lattice (band_below_line n band) f r) (acted lattice (band_below_line n band) g t)
  acted_below f g r t fr ft agree same = elim (dec_lt band.start n) [
    | yes low ↦
        elim (dec_lt band.start band.stop) [
          | yes some ↦ begins (agree (low, some))
          | no none ↦ idle (none_below (length r.lines) fr (λ b. absurd (none b.1)))
        ]
    | no high ↦ idle (none_below (length r.lines) fr (λ b. absurd (high b.0)))
  ]
    where
      idle : None (band_below_line n band) → SameBelow n (acted lattice (band_below_line n band) f r) (acted lattice (band_below_line n band) g t)
      idle none = rw (acted_none lattice (band_below_line n band) none f r, acted_none lattice (band_below_line n band) none g t) same

      begins : f ≡ g → SameBelow n (acted lattice (band_below_line n band) f r) (acted lattice (band_below_line n band) g t)
      begins e =
          let a = min n band.start in
          let z = min n band.stop in
          let br = below_fits n band (length r.lines) fr in
          let bt = below_fits n band (length t.lines) ft in
          let to : min n band.stop ≤ n = omega arith in
          record {
            lines =
                rw (
                  lines_below n a z br.order to r.lines br.end (change lattice f r.states) (by_length lattice _ _ _ _),
                  lines_below n a z bt.order to t.lines bt.end (change lattice g t.states) (by_length lattice _ _ _ _),
                  same.lines,
                  same.states,
                  e,
                );
            states = rw (sym (part_of_first a z n r.lines to), sym (part_of_first a z n t.lines to), same.lines, same.states, e);
          }

  acted_from : (f : Filter) (r t : LinesAndStates) → Fits band (length r.lines) → Fits band (length t.lines) → n ≤ length r.lines → n ≤ length t.lines
      → SameFrom n r t → SameFrom n (acted lattice (band_from_line n band) f r) (acted lattice (band_from_line n band) f t)
  acted_from f r t fr ft hr ht same =
      let a = max n band.start in
      let z = max n band.stop in
      let br = from_fits n band (length r.lines) fr hr in
      let bt = from_fits n band (length t.lines) ft ht in
      let from : n ≤ max n band.start = omega arith in
      record {
        lines =
            rw (
              lines_from n a z from br.order r.lines (omega (arith, br.order, br.end)) (change lattice f r.states),
              lines_from n a z from bt.order t.lines (omega (arith, bt.order, bt.end)) (change lattice f t.states),
              same.lines,
              same.states,
            );
        states = rw (sym (part_of_rest n a z r.lines from), sym (part_of_rest n a z t.lines from), same.lines, same.states);
      }

  -- neither side writes to the other
  kept_below : (f : Filter) (r : LinesAndStates) → Fits band (length r.lines) → n ≤ length r.lines
      → take n (acted lattice (band_from_line n band) f r).lines ≡ take n r.lines
  kept_below f r fits h =
      let b = from_fits n band (length r.lines) fits h in
      lines_below_stay n (max n band.start) (max n band.stop) (omega arith) b.order r.lines (omega (arith, b.order, b.end)) (change lattice f r.states)

  kept_from : (f : Filter) (r : LinesAndStates) → Fits band (length r.lines) → drop n (acted lattice (band_below_line n band) f r).lines ≡ drop n r.lines
  kept_from f r fits =
      let b = below_fits n band (length r.lines) fits in
      lines_from_stay n (min n band.start) (min n band.stop) b.order (omega arith) r.lines b.end (change lattice f r.states) (by_length lattice _ _ _ _)

-- ---- the filters of a row

module _ (lattice : Lattice) (n : ℕ) (row : Row) where
  abbrev going : List Float → List Float → LinesAndStates
  going states lines = record { lines = lines; states = states }

  -- a band fits the lines that a part of the other one's filter leaves
  below_leaves : (f : Filter) (s xs : List Float) → SoundRow row (length xs) → Fits row.second (length (acted lattice (band_below_line n row.first) f (going s xs)).lines)
  below_leaves f s xs sound =
      let long = acted_length lattice (band_below_line n row.first) f (going s xs) (below_fits n row.first (length xs) sound.first_fits) in
      record { order = sound.second_fits.order; end = omega (arith, sound.second_fits.end, long) }

  from_long : (f : Filter) (s xs : List Float) → SoundRow row (length xs) → n ≤ length xs
      → length (acted lattice (band_from_line n row.first) f (going s xs)).lines ≡ length xs
  from_long f s xs sound there = acted_length lattice (band_from_line n row.first) f (going s xs) (from_fits n row.first (length xs) sound.first_fits there)

  from_leaves : (f : Filter) (s xs : List Float) → SoundRow row (length xs) → n ≤ length xs
      → Fits row.second (length (acted lattice (band_from_line n row.first) f (going s xs)).lines)
  from_leaves f s xs sound there =
      record { order = sound.second_fits.order; end = omega (arith, sound.second_fits.end, from_long f s xs sound there) }

  -- two spectra with the same lines below the line
  module _ (s xs ys : List Float) (sx : SoundRow row (length xs)) (sy : SoundRow row (length ys)) (same : take n xs ≡ take n ys) where
    pub none_states : (row_run lattice (row_below_line n row) [] s xs).states ≡ (row_run lattice (row_below_line n row) [] s ys).states
    unfolding bands_run
    none_states = refl

    first_below : (f g : Filter) → (Begins n row.first → f ≡ g)
        → SameBelow n (acted lattice (band_below_line n row.first) f (going s xs)) (acted lattice (band_below_line n row.first) g (going s ys))
    first_below f g agree = acted_below lattice n row.first f g (going s xs) (going s ys) sx.first_fits sy.first_fits agree (record { lines = same; states = refl })

    pub one_states : (f g : Filter) → (Begins n row.first → f ≡ g)
        → (row_run lattice (row_below_line n row) (f ∷ []) s xs).states ≡ (row_run lattice (row_below_line n row) (g ∷ []) s ys).states
    unfolding bands_run
    one_states f g agree = (first_below f g agree).states

    pub two_states : (f g h k : Filter) → (Begins n row.first → f ≡ g) → (Begins n row.second → h ≡ k)
        → (row_run lattice (row_below_line n row) (f ∷ h ∷ []) s xs).states ≡ (row_run lattice (row_below_line n row) (g ∷ k ∷ []) s ys).states
    unfolding bands_run
    two_states f g h k first second =
        (acted_below lattice n row.second h k _ _ (below_leaves f s xs sx) (below_leaves g s ys sy) second (first_below f g first)).states

  -- two spectra with the same lines from the line on
  pub same_rest : (s xs ys : List Float) → SoundRow row (length xs) → SoundRow row (length ys) → n ≤ length xs → n ≤ length ys → drop n xs ≡ drop n ys
      → (filters : List Filter)
      → drop n (row_run lattice (row_from_line n row) filters s xs).lines ≡ drop n (row_run lattice (row_from_line n row) filters s ys).lines
  unfolding bands_run
  same_rest s xs ys sx sy hx hy same = cases
    where
      first_from : (f : Filter)
          → SameFrom n (acted lattice (band_from_line n row.first) f (going s xs)) (acted lattice (band_from_line n row.first) f (going s ys))
      first_from f = acted_from lattice n row.first f (going s xs) (going s ys) sx.first_fits sy.first_fits hx hy (record { lines = same; states = refl })

      cases : (filters : List Filter)
          → drop n (row_run lattice (row_from_line n row) filters s xs).lines ≡ drop n (row_run lattice (row_from_line n row) filters s ys).lines
      cases [] = same
      cases (f ∷ []) = (first_from f).lines
      cases (f ∷ g ∷ filters) =
          (acted_from lattice n row.second g _ _ (from_leaves f s xs sx hx) (from_leaves f s ys sy hy) (omega (arith, from_long f s xs sx hx))
          (omega (arith, from_long f s ys sy hy)) (first_from f)).lines

  -- the lines on the other side of the line stay
  module _ (s xs : List Float) (sound : SoundRow row (length xs)) where
    pub below_stay : n ≤ length xs → (filters : List Filter) → take n (row_run lattice (row_from_line n row) filters s xs).lines ≡ take n xs
    unfolding bands_run
    below_stay there [] = refl
    below_stay there (f ∷ []) = kept_below lattice n row.first f (going s xs) sound.first_fits there
    below_stay there (f ∷ g ∷ filters) =
        kept_below lattice n row.second g _ (from_leaves f s xs sound there) (omega (arith, from_long f s xs sound there))
        ∙ kept_below lattice n row.first f (going s xs) sound.first_fits there

    pub rest_stay : (filters : List Filter) → drop n (row_run lattice (row_below_line n row) filters s xs).lines ≡ drop n xs
    unfolding bands_run
    rest_stay [] = refl
    rest_stay (f ∷ []) = kept_from lattice n row.first f (going s xs) sound.first_fits
    rest_stay (f ∷ g ∷ filters) =
        kept_from lattice n row.second g _ (below_leaves f s xs sound) ∙ kept_from lattice n row.first f (going s xs) sound.first_fits

-- ---- a run goes on from the states at the line

module _ (lattice : Lattice) (n : ℕ) (row : Row) (turn : InTurn row.first row.second) (s xs : List Float) (sound : SoundRow row (length xs)) (there : n ≤ length xs) where
  below_long : (filters : List Filter) → length (row_run lattice (row_below_line n row) filters s xs).lines ≡ length xs
  unfolding bands_run
  below_long [] = refl
  below_long (f ∷ []) = acted_length lattice (band_below_line n row.first) f (going lattice n row s xs) (below_fits n row.first (length xs) sound.first_fits)
  below_long (f ∷ g ∷ filters) =
      acted_length lattice (band_below_line n row.second) g _ (below_fits n row.second _ (below_leaves lattice n row f s xs sound))
      ∙ acted_length lattice (band_below_line n row.first) f (going lattice n row s xs) (below_fits n row.first (length xs) sound.first_fits)

  pub goes_on : (filters : List Filter)
      → drop n (row_run lattice (row_from_line n row) filters (row_run lattice (row_below_line n row) filters s xs).states xs).lines
      ≡ drop n (row_run lattice row filters s xs).lines
  goes_on filters =
      let at-line = row_run lattice (row_below_line n row) filters s xs in
      let long = below_long filters in
      same_rest lattice n row at-line.states xs at-line.lines sound (subst (λ (k : ℕ). SoundRow row k) (sym long) sound) there (omega (arith, long))
      (sym (rest_stay lattice n row s xs sound filters)) filters
      ∙ ap (λ (r : LinesAndStates). drop n r.lines) (row_in_two lattice n row turn s xs sound there filters)
