-- docs/RULES.md, "Restart at a line (C-22)": filters that act below a line, and then from the line on with the states that they have there, leave what they leave in one go.
use mathlib.Core.Path.{◌≡◌, refl, sym, ◌∙◌, ap}
use mathlib.Core.Logic.{⊎_elim}
use mathlib.Core.List.{List, [], ◌∷◌, ◌++◌, append_assoc}
use Prim.Native.Nat.{ℕ, ◌+◌, ◌-◌, ◌≤◌, min, max}
use native.Mathlib.Decide.{dec_lt}
use native.Mathlib.Omega.{arith}
use lib.Ieee.{Float}
use lib.ListN.{length, take, drop, length-append, length-drop}
use lib.Seq.{length-take-le, drop-drop, take_at, drop_at}
use Rattle.law_lists.specs.Places.{part}
use Rattle.law_lists.proofs.Parts.{part_split}
use Rattle.row_bands.specs.Bands.{inside, within}
use Rattle.row_bands.specs.declared.Band.{Band}
use Rattle.row_bands.specs.declared.Row.{Row}
use Rattle.row_bands.proofs.Bands.{Fits, SoundRow}
use Rattle.row_bands.proofs.Apart.{InTurn, within_length}
use Rattle.lattice_lines.specs.Lattice.{Lattice}
use Rattle.lattice_lines.proofs.BandLines.{by_length, by_parts, states_by_parts}
use Rattle.lattice_rows.specs.Filters.{Filter, LinesAndStates, bands_run, row_run, FilteredRow}
use Rattle.lattice_rows.specs.Split.{band_below_line, band_from_line, row_below_line, row_from_line}
use Rattle.lattice_rows.proofs.Filters.{change, leaves, no_lines}

-- ---- cut bands lie where the whole ones do

module _ (n : ℕ) (band : Band) (lines : ℕ) (fits : Fits band lines) where
  pub below_fits : Fits (band_below_line n band) lines
  below_fits = record { order = omega (arith, fits.order); end = omega (arith, fits.end) }

  pub from_fits : n ≤ lines → Fits (band_from_line n band) lines
  from_fits h = record { order = omega (arith, fits.order); end = omega (arith, fits.end) }

pub row_below_sound : (n : ℕ) (row : Row) (lines : ℕ) → SoundRow row lines → SoundRow (row_below_line n row) lines
row_below_sound n row lines sound =
    record { first_fits = below_fits n row.first lines sound.first_fits; second_fits = below_fits n row.second lines sound.second_fits }

pub row_from_sound : (n : ℕ) (row : Row) (lines : ℕ) → n ≤ lines → SoundRow row lines → SoundRow (row_from_line n row) lines
row_from_sound n row lines h sound =
    record { first_fits = from_fits n row.first lines sound.first_fits h; second_fits = from_fits n row.second lines sound.second_fits h }

-- ---- lines that are changed in two parts, the first from a to n and the second from n to z

module _ (a n z : ℕ) (xs : List Float) (from : a ≤ n) (to : n ≤ z) (there : n ≤ length xs) (first second both : List Float → List Float)
    (as_long : length (first (part a n xs)) ≡ length (part a n xs)) where
  abbrev pub ys : List Float
  ys = take a xs ++ (first (part a n xs) ++ drop n xs)

  -- what stands below n then, and from n on
  abbrev pub done : List Float
  done = take a xs ++ first (part a n xs)

  pub done_length : length done ≡ n
  done_length =
      length-append (take a xs) _
      ∙ omega (arith, length-take-le a xs (omega arith), as_long, length-take-le (n - a) (drop a xs) (omega (arith, length-drop a xs)))

  in_parts : ys ≡ done ++ drop n xs
  in_parts = sym (append_assoc (take a xs) (first (part a n xs)) (drop n xs))

  below_n : take n ys ≡ done
  below_n = ap (take n) in_parts ∙ take_at done (drop n xs) n done_length

  from_n : drop n ys ≡ drop n xs
  from_n = ap (drop n) in_parts ∙ drop_at done (drop n xs) n done_length

  second_part : part n z ys ≡ part n z xs
  second_part = ap (take (z - n)) from_n

  pub from_z : drop z ys ≡ drop z xs
  from_z =
      let e : n + (z - n) ≡ z = omega arith in
      ap (λ (k : ℕ). drop k ys) (sym e) ∙ sym (drop-drop (z - n) n ys) ∙ ap (drop (z - n)) from_n ∙ drop-drop (z - n) n xs ∙ ap (λ (k : ℕ). drop k xs) e

  in_two : both (part a n xs ++ part n z xs) ≡ first (part a n xs) ++ second (part n z xs)
      → take n ys ++ (second (part n z ys) ++ drop z ys) ≡ take a xs ++ (both (part a z xs) ++ drop z xs)
  in_two joined = rw (below_n, second_part, from_z, part_split a n z xs from to, joined) (simp append_assoc)

-- ---- one filter in one band

-- two bands of the same lines, and a band of none
pub record Same (a b : Band) : Type 0 where
  pub start : a.start ≡ b.start
  pub stop : a.stop ≡ b.stop

abbrev pub None : Band → Type 0
None band = band.stop ≡ band.start

module _ (lattice : Lattice) where
  abbrev pub acted : Band → Filter → LinesAndStates → LinesAndStates
  acted band f run =
      record { lines = within band (change lattice f run.states) run.lines; states = leaves lattice f run.states (inside band run.lines) }

  acted_same : (a b : Band) → Same a b → (f : Filter) (run : LinesAndStates) → acted a f run ≡ acted b f run
  acted_same a b e f run = rw (e.start, e.stop)

  -- no line goes through the lattice
  pub acted_none : (band : Band) → None band → (f : Filter) (run : LinesAndStates) → acted band f run ≡ run
  acted_none band e f run =
      let stays = no_lines lattice band (sym e) f run.states run.lines in
      ap (λ (l : List Float). record { lines = l; states = leaves lattice f run.states (inside band run.lines) }) (sym stays.lines)
      ∙ ap (λ (s : List Float). record { lines = run.lines; states = s }) (sym stays.states)

  pub acted_length : (band : Band) (f : Filter) (run : LinesAndStates) → Fits band (length run.lines) → length (acted band f run).lines ≡ length run.lines
  acted_length band f run fits = within_length band (change lattice f run.states) run.lines fits (by_length lattice _ _ _ _)

  module _ (n : ℕ) where
    -- a band that starts at the line or after it lies beyond it whole, and one that stops there or before it lies below it whole
    pub beyond : (band : Band) → band.start ≤ band.stop → n ≤ band.start → None (band_below_line n band) × Same (band_from_line n band) band
    beyond band order h = (omega arith, record { start = omega arith; stop = omega arith })

    before : (band : Band) → band.start ≤ band.stop → band.stop ≤ n → Same (band_below_line n band) band × None (band_from_line n band)
    before band order h = (record { start = omega arith; stop = omega arith }, omega arith)

    -- in a band that the line cuts
    between : (band : Band) (f : Filter) (run : LinesAndStates) → n ≤ length run.lines → band.start ≤ n → n ≤ band.stop
        → acted (band_from_line n band) f (acted (band_below_line n band) f run) ≡ acted band f run
    between band f run there from to =
        let xs = run.lines in
        let s = run.states in
        let a = band.start in
        let z = band.stop in
        let p = part a n xs in
        let q = part n z xs in
        let e1 : min n band.start ≡ band.start = omega arith in
        let e2 : min n band.stop ≡ n = omega arith in
        let e3 : max n band.start ≡ n = omega arith in
        let e4 : max n band.stop ≡ band.stop = omega arith in
        let as_long : length (change lattice f s p) ≡ length p = by_length lattice _ _ _ _ in
        let lines = in_two a n z xs from to there (change lattice f s) (change lattice f (leaves lattice f s p)) (change lattice f s) as_long (by_parts lattice _ _ s p q) in
        let states =
        ap (leaves lattice f (leaves lattice f s p)) (second_part a n z xs from to there (change lattice f s) (change lattice f (leaves lattice f s p)) (change lattice f s) as_long)
        ∙ sym (states_by_parts lattice _ _ s p q)
        ∙ ap (leaves lattice f s) (sym (part_split a n z xs from to))
        in
        rw (e1, e2, e3, e4) cc

    -- whatever the line, a filter acts in two parts as it acts in one
    acted_in_two : (band : Band) (f : Filter) (run : LinesAndStates) → Fits band (length run.lines) → n ≤ length run.lines
        → acted (band_from_line n band) f (acted (band_below_line n band) f run) ≡ acted band f run
    acted_in_two band f run fits there = elim (dec_lt n band.start) [
      | yes early ↦
          let e = beyond band fits.order (omega arith) in
          ap (acted (band_from_line n band) f) (acted_none (band_below_line n band) e.0 f run) ∙ acted_same (band_from_line n band) band e.1 f run
      | no from ↦
          elim (dec_lt band.stop n) [
            | yes late ↦
                let e = before band fits.order (omega arith) in
                acted_none (band_from_line n band) e.1 f _ ∙ acted_same (band_below_line n band) band e.0 f run
            | no to ↦ between band f run there (omega arith) (omega arith)
          ]
    ]

    -- and so do two, each in its own band
    module _ (row : Row) (turn : InTurn row.first row.second) (f g : Filter) (run : LinesAndStates) (sound : SoundRow row (length run.lines))
        (there : n ≤ length run.lines) where
      abbrev once : LinesAndStates
      once = acted row.first f run

      abbrev below : LinesAndStates
      below = acted (band_below_line n row.first) f run

      abbrev in_parts_of_both : LinesAndStates
      in_parts_of_both = acted (band_from_line n row.second) g (acted (band_from_line n row.first) f (acted (band_below_line n row.second) g below))

      -- the line is at the second band or before it: below it only the first filter acts
      line_before_second : n ≤ row.second.start → in_parts_of_both ≡ acted row.second g once
      line_before_second h =
          let e = beyond row.second sound.second_fits.order h in
          ap (λ (r : LinesAndStates). acted (band_from_line n row.second) g (acted (band_from_line n row.first) f r)) (acted_none (band_below_line n row.second) e.0 g below)
          ∙ ap (acted (band_from_line n row.second) g) (acted_in_two row.first f run sound.first_fits there)
          ∙ acted_same (band_from_line n row.second) row.second e.1 g once

      -- the line is past the first band: from it on only the second filter acts
      line_past_first : row.first.stop ≤ n → in_parts_of_both ≡ acted row.second g once
      line_past_first h =
          let e = before row.first sound.first_fits.order h in
          let long = acted_length row.first f run sound.first_fits in
          ap (acted (band_from_line n row.second) g) (acted_none (band_from_line n row.first) e.1 f _)
          ∙ ap (λ (r : LinesAndStates). acted (band_from_line n row.second) g (acted (band_below_line n row.second) g r)) (acted_same (band_below_line n row.first) row.first e.0 f run)
          ∙ acted_in_two row.second g once
          (record { order = sound.second_fits.order; end = omega (arith, sound.second_fits.end, long) }) (omega (arith, long))

      -- there is no second band, and so no part of one
      no_second : row.second.stop ≡ 0 → in_parts_of_both ≡ acted row.second g once
      no_second h =
          let order = sound.second_fits.order in
          acted_none (band_from_line n row.second) (omega arith) g _
          ∙ ap (acted (band_from_line n row.first) f) (acted_none (band_below_line n row.second) (omega arith) g below)
          ∙ acted_in_two row.first f run sound.first_fits there
          ∙ sym (acted_none row.second (omega arith) g once)

      both_in_two : in_parts_of_both ≡ acted row.second g once
      both_in_two =
          ⊎_elim (λ after. elim (dec_lt row.second.start n) [
            | yes past ↦ line_past_first (omega arith)
            | no early ↦ line_before_second (omega arith)
          ]) no_second turn

    -- ---- the filters of a row

    module _ (row : Row) (turn : InTurn row.first row.second) (start xs : List Float) (sound : SoundRow row (length xs)) (there : n ≤ length xs) where
      pub row_in_two : (filters : List Filter)
          → row_run lattice (row_from_line n row) filters (row_run lattice (row_below_line n row) filters start xs).states (row_run lattice (row_below_line n row) filters start xs).lines
          ≡ row_run lattice row filters start xs
      unfolding bands_run
      row_in_two [] = refl
      row_in_two (f ∷ []) = acted_in_two row.first f (record { lines = xs; states = start }) sound.first_fits there
      row_in_two (f ∷ g ∷ filters) = both_in_two row turn f g (record { lines = xs; states = start }) sound there

      -- two runs, one below the line and one from it on, are one
      pub two_runs : (filters : List Filter) (before ys after zs : List Float) → FilteredRow lattice (row_below_line n row) filters start xs before ys
          → FilteredRow lattice (row_from_line n row) filters before ys after zs → FilteredRow lattice row filters start xs after zs
      two_runs filters before ys after zs b c =
          let e = row_in_two filters in
          record {
            states = rw (c.states, b.states, b.lines) (ap (λ (r : LinesAndStates). r.states) e);
            lines = rw (c.lines, b.states, b.lines) (ap (λ (r : LinesAndStates). r.lines) e);
          }
