-- Laws of a change within one band, whatever it is: places outside the band keep their lines, and bands apart from it theirs. The bands of a row
-- come one after the other, and none reaches before the duration's first line or past the row's last stop: one test over the rows of both durations.
use mathlib.Core.Path.{◌≡◌, refl, sym, ◌∙◌, ap, subst}
use mathlib.Core.Logic.{◌⊎◌, inl, inr, ⊎_elim}
use mathlib.Core.Bool.{Bool, true, false, ◌&&◌, ◌||◌}
use mathlib.Core.List.{List, [], ◌++◌}
use Prim.Native.Nat.{ℕ, zero, suc, ◌+◌, ◌-◌, ◌≤◌, ◌<◌}
use native.Mathlib.Nat.{lt_of_not-le, lt_irrefl}
use native.Mathlib.Omega.{arith}
use lib.Dec.{leb, eqb}
use borrow.Author.Tests.{leb-true, eqb-true}
use lib.Ieee.{Float, nan}
use lib.ListN.{length, get_or, take, drop, length-append, length-drop, get_or-append}
use lib.Seq.{length-take-le, get_or-append-add, get_or-take, get_or-drop, take_at, drop_at, ext_get_or}
use Rattle.law_lists.specs.Every.{every}
use Rattle.law_lists.proofs.Every.{every_at, and_left, and_right}
use Rattle.row_durations.specs.Durations.{numbers_of}
use Rattle.row_bands.specs.Bands.{rows_of, band_from, row_of, band_of, last_stop, inside, within}
use Rattle.row_durations.specs.declared.Duration.{Duration}
use Rattle.row_durations.specs.declared.Duration.TheVariants.{Ten, SevenPointFive}
use Rattle.row_bands.specs.declared.Band.{Band}
use Rattle.row_bands.proofs.Bands.{Fits}

-- a place that is not in a band
abbrev pub Outside : Band → ℕ → Type 0
Outside band i = (i < band.start) ⊎ (band.stop ≤ i)

not_outside : (band : Band) (i : ℕ) → band.start ≤ i → i < band.stop → Outside band i → ⊥
not_outside band i from to = ⊎_elim (λ before. lt_irrefl i (omega arith)) (λ after. lt_irrefl i (omega arith))

-- two bands with no line in common
abbrev pub Apart : Band → Band → Type 0
Apart a b = (a.stop ≤ b.start) ⊎ (b.stop ≤ a.start)

-- the second starts where the first stops, or after it; or there is no second
abbrev pub InTurn : Band → Band → Type 0
InTurn a b = (a.stop ≤ b.start) ⊎ (b.stop ≡ 0)

-- ---- one change within one band

pub inside_length : (band : Band) (xs : List Float) → Fits band (length xs) → length (inside band xs) ≡ band.stop - band.start
inside_length band xs fits = length-take-le _ _ (omega (arith, length-drop band.start xs, fits.end))

-- what stands at a place of a band
pub inside_at : (band : Band) (xs : List Float) (j : ℕ) → j < band.stop - band.start → get_or (inside band xs) j nan ≡ get_or xs (band.start + j) nan
inside_at band xs j h = get_or-take _ (drop band.start xs) j nan h ∙ get_or-drop band.start xs j nan

module _ (band : Band) (change : List Float → List Float) (xs : List Float) (fits : Fits band (length xs))
    (as_long : length (change (inside band xs)) ≡ length (inside band xs)) where
  before : length (take band.start xs) ≡ band.start
  before = length-take-le _ _ (omega (arith, fits.order, fits.end))

  changed : length (change (inside band xs)) ≡ band.stop - band.start
  changed = as_long ∙ inside_length band xs fits

  pub within_length : length (within band change xs) ≡ length xs
  within_length =
      length-append (take band.start xs) _
      ∙ omega (arith, before, changed, length-append (change (inside band xs)) (drop band.stop xs), length-drop band.stop xs, fits.order, fits.end)

  within_below : (i : ℕ) → i < band.start → get_or (within band change xs) i nan ≡ get_or xs i nan
  within_below i h = get_or-append (take band.start xs) _ nan i (omega (arith, before)) ∙ get_or-take band.start xs i nan h

  within_past : (i : ℕ) → band.stop ≤ i → get_or (within band change xs) i nan ≡ get_or xs i nan
  within_past i h =
      let ys = change (inside band xs) in
      let rest = drop band.stop xs in
      let here : i ≡ length (take band.start xs) + (length ys + (i - band.stop)) = omega (arith, before, changed, fits.order) in
      let there : band.stop + (i - band.stop) ≡ i = omega arith in
      ap (λ (n : ℕ). get_or (within band change xs) n nan) here
      ∙ get_or-append-add (take band.start xs) (ys ++ rest) (length ys + (i - band.stop)) nan
      ∙ get_or-append-add ys rest (i - band.stop) nan
      ∙ get_or-drop band.stop xs (i - band.stop) nan
      ∙ ap (λ (n : ℕ). get_or xs n nan) there

  -- a place outside the band keeps its line
  pub within_outside : (i : ℕ) → Outside band i → get_or (within band change xs) i nan ≡ get_or xs i nan
  within_outside i o = ⊎_elim (within_below i) (within_past i) o

  -- the band has the changed lines
  pub inside_within : inside band (within band change xs) ≡ change (inside band xs)
  inside_within =
      ap (λ (l : List Float). take (band.stop - band.start) l) (drop_at (take band.start xs) _ band.start before)
      ∙ take_at (change (inside band xs)) _ (band.stop - band.start) changed

  -- a band apart from it keeps its lines
  pub inside_other : (other : Band) → Fits other (length xs) → Apart other band → inside other (within band change xs) ≡ inside other xs
  inside_other other its apart =
      let now-fits : Fits other (length (within band change xs)) = subst (λ (n : ℕ). Fits other n) (sym within_length) its in
      let long = inside_length other (within band change xs) now-fits in
      ext_get_or nan _ _ (long ∙ sym (inside_length other xs its)) (λ j h.
      let h' : j < other.stop - other.start = omega (arith, long) in
      inside_at other (within band change xs) j h'
      ∙ within_outside (other.start + j) (⊎_elim (λ p. inl (omega arith)) (λ p. inr (omega arith)) apart)
      ∙ sym (inside_at other xs j h'))

-- ---- the rows of both durations: one test over them all, which a row of no numbers passes too

-- a band of no lines, or one that starts at the duration's first line or after it
not_before : ℕ → Band → Bool
not_before firstLine band = eqb band.stop 0 || leb firstLine band.start

-- the second band, if there is one, comes after the first
in_turn : List ℕ → Bool
in_turn row = leb (band_from 0 row).stop (band_from 4 row).start || eqb (band_from 4 row).stop 0

-- the first band starts no later than the duration's first line
starts_by : ℕ → List ℕ → Bool
starts_by firstLine row = leb (band_from 0 row).start firstLine

-- neither band starts early, the two come in turn, and the first does not start late
laid_out : ℕ → List ℕ → Bool
laid_out firstLine row =
    (not_before firstLine (band_from 0 row) && not_before firstLine (band_from 4 row))
    && (in_turn row && starts_by firstLine row)

all_laid_out : (d : Duration) → every (laid_out (numbers_of d).first_line) (rows_of d) ≡ true
unfolding laid_out not_before in_turn starts_by
all_laid_out Ten = refl
all_laid_out SevenPointFive = refl

none_laid_out : (d : Duration) → laid_out (numbers_of d).first_line [] ≡ true
unfolding laid_out not_before in_turn starts_by
none_laid_out Ten = refl
none_laid_out SevenPointFive = refl

either : (a b : Bool) → a || b ≡ true → (a ≡ true) ⊎ (b ≡ true)
either true b e = inl refl
either false b e = inr e

not_before_outside : (firstLine : ℕ) (band : Band) (i : ℕ) → not_before firstLine band ≡ true → i < firstLine → Outside band i
unfolding not_before
not_before_outside firstLine band i e h =
    ⊎_elim (λ none. inr (omega (arith, eqb-true band.stop 0 none))) (λ late. inl (omega (arith, leb-true firstLine band.start late)))
    (either (eqb band.stop 0) (leb firstLine band.start) e)

all_four : (a b c e : Bool) → (a && b) && (c && e) ≡ true → (a ≡ true) × (b ≡ true) × (c ≡ true) × (e ≡ true)
all_four a b c e h =
    let first = and_left (a && b) (c && e) h in
    let second = and_right (a && b) (c && e) h in
    (and_left a b first, and_right a b first, and_left c e second, and_right c e second)

module _ (d : Duration) (bandwidth : ℕ) where
  numbers : List ℕ
  numbers = get_or (rows_of d) bandwidth []

  laid_out_lem : laid_out (numbers_of d).first_line numbers ≡ true
  unfolding numbers
  laid_out_lem = every_at (laid_out (numbers_of d).first_line) (rows_of d) (all_laid_out d) [] (none_laid_out d) bandwidth

  each : (not_before (numbers_of d).first_line (band_from 0 numbers) ≡ true) × (not_before (numbers_of d).first_line (band_from 4 numbers) ≡ true)
      × (in_turn numbers ≡ true) × (starts_by (numbers_of d).first_line numbers ≡ true)
  unfolding laid_out
  each =
      all_four (not_before (numbers_of d).first_line (band_from 0 numbers)) (not_before (numbers_of d).first_line (band_from 4 numbers)) (in_turn numbers)
      (starts_by (numbers_of d).first_line numbers) laid_out_lem

  pub row_in_turn : InTurn (row_of d bandwidth).first (row_of d bandwidth).second
  unfolding row_of numbers in_turn
  row_in_turn = ⊎_elim (λ e. inl (leb-true _ _ e)) (λ e. inr (eqb-true _ _ e)) (either _ _ each.2)

  -- so they have no line in common
  pub row_apart : Apart (row_of d bandwidth).first (row_of d bandwidth).second
  row_apart = ⊎_elim (λ after. inl after) (λ none. inr (omega arith)) row_in_turn

  -- no band reaches before the duration's first line
  pub early_outside : (k i : ℕ) → i < (numbers_of d).first_line → Outside (band_of (row_of d bandwidth) k) i
  unfolding row_of numbers
  early_outside zero i h = not_before_outside (numbers_of d).first_line (band_from 0 numbers) i each.0 h
  early_outside (suc zero) i h = not_before_outside (numbers_of d).first_line (band_from 4 numbers) i each.1 h
  early_outside (suc (suc k)) i h = inr (omega arith)

  -- nor past the row's last stop
  pub late_outside : (k i : ℕ) → last_stop (row_of d bandwidth) ≤ i → Outside (band_of (row_of d bandwidth) k) i
  late_outside zero i h = inr (omega arith)
  late_outside (suc zero) i h = inr (omega arith)
  late_outside (suc (suc k)) i h = inr (omega arith)

  first_by : (row_of d bandwidth).first.start ≤ (numbers_of d).first_line
  unfolding row_of numbers starts_by
  first_by = leb-true _ _ each.3

  -- so a line of either band lies from the first band's start to the last band's end
  pub in_row : (k i : ℕ) → (band_of (row_of d bandwidth) k).start ≤ i → i < (band_of (row_of d bandwidth) k).stop
      → ((row_of d bandwidth).first.start ≤ i) × (i < last_stop (row_of d bandwidth))
  in_row k i from to =
      let band = band_of (row_of d bandwidth) k in
      let late : (numbers_of d).first_line < suc i = lt_of_not-le (λ (early : suc i ≤ (numbers_of d).first_line). not_outside band i from to (early_outside k i early)) in
      (omega (arith, late, first_by), lt_of_not-le (λ (past : last_stop (row_of d bandwidth) ≤ i). not_outside band i from to (late_outside k i past)))
