-- Laws of the bands of a row: their cuts are in order, which one computed test says of the rows of both durations, and a spectrum is what lies
-- before, in and after a band.
use mathlib.Core.Path.{◌≡◌, refl, sym, ◌∙◌, ap}
use mathlib.Core.Bool.{Bool, true, ◌&&◌}
use mathlib.Core.List.{List, [], ◌++◌}
use Prim.Native.Nat.{ℕ, ◌+◌, ◌-◌, ◌≤◌}
use native.Mathlib.Omega.{arith}
use lib.Dec.{leb}
use borrow.Author.Tests.{leb-true}
use lib.Ieee.{Float}
use lib.ListN.{get_or, take, drop, take-append-drop}
use lib.Seq.{drop-drop}
use Rattle.law_lists.specs.Every.{every}
use Rattle.law_lists.proofs.Every.{and_left, and_right, every_at}
use Rattle.row_bands.specs.Bands.{rows_of, band_from, row_of, inside, within}
use Rattle.row_durations.specs.declared.Duration.{Duration}
use Rattle.row_durations.specs.declared.Duration.TheVariants.{Ten, SevenPointFive}
use Rattle.row_bands.specs.declared.Band.{Band}
use Rattle.row_bands.specs.declared.Row.{Row}

-- a band lies within so many lines
pub record Fits (band : Band) (lines : ℕ) : Type 0 where
  pub order : band.start ≤ band.stop
  pub end : band.stop ≤ lines

-- both bands of a row do
pub record SoundRow (row : Row) (lines : ℕ) : Type 0 where
  pub first_fits : Fits row.first lines
  pub second_fits : Fits row.second lines

-- the cuts of a band lie in order between its start and its stop
pub record Cut (band : Band) : Type 0 where
  pub lowest : band.start ≤ band.first_cut
  pub middle : band.first_cut ≤ band.second_cut
  pub highest : band.second_cut ≤ band.stop

in_order : Band → Bool
in_order b = leb b.start b.first_cut && (leb b.first_cut b.second_cut && leb b.second_cut b.stop)

-- one test over all rows, which a row of no numbers passes too
cut_in_order : List ℕ → Bool
cut_in_order row = in_order (band_from 0 row) && in_order (band_from 4 row)

all_cut : (d : Duration) → every cut_in_order (rows_of d) ≡ true
unfolding cut_in_order in_order
all_cut Ten = refl
all_cut SevenPointFive = refl

is_cut : (b : Band) → in_order b ≡ true → Cut b
unfolding in_order
is_cut b e =
    let first = leb b.start b.first_cut in
    let second = leb b.first_cut b.second_cut in
    let third = leb b.second_cut b.stop in
    let rest = and_right first (second && third) e in
    record {
      lowest = leb-true _ _ (and_left first (second && third) e);
      middle = leb-true _ _ (and_left second third rest);
      highest = leb-true _ _ (and_right second third rest);
    }

pub row_cut : (d : Duration) (bandwidth : ℕ) → Cut (row_of d bandwidth).first × Cut (row_of d bandwidth).second
unfolding row_of cut_in_order in_order
row_cut d bandwidth =
    let row = get_or (rows_of d) bandwidth [] in
    let all = every_at cut_in_order (rows_of d) (all_cut d) [] refl bandwidth in
    let first = in_order (band_from 0 row) in
    let second = in_order (band_from 4 row) in
    (is_cut (band_from 0 row) (and_left first second all), is_cut (band_from 4 row) (and_right first second all))

-- so a band starts no later than it stops, and lies within as many lines as its stop
pub cut_fits : (band : Band) (lines : ℕ) → Cut band → band.stop ≤ lines → Fits band lines
cut_fits band lines cut end = record { order = omega (arith, cut.lowest, cut.middle, cut.highest); end = end }

-- a spectrum whose band comes back changed, as the logic has it and as the definition has it
pub band_back : {A : Type 0} (band : Band) (xs ys : List A) → band.start ≤ band.stop
    → take band.start xs ++ (ys ++ drop (band.stop - band.start) (drop band.start xs)) ≡ take band.start xs ++ (ys ++ drop band.stop xs)
band_back {A} band xs ys h =
    let e : band.start + (band.stop - band.start) ≡ band.stop = omega arith in
    ap (λ (l : List A). take band.start xs ++ (ys ++ l)) (drop-drop (band.stop - band.start) band.start xs ∙ ap (λ (n : ℕ). drop n xs) e)

-- a change that leaves the lines of a band as they are leaves the spectrum as it is
pub band_kept : (band : Band) (change : List Float → List Float) (xs : List Float) → band.start ≤ band.stop → inside band xs ≡ change (inside band xs) → xs ≡ within band change xs
band_kept band change xs h e =
    sym (take-append-drop band.start xs)
    ∙ ap (λ (l : List Float). take band.start xs ++ l) (sym (take-append-drop (band.stop - band.start) (drop band.start xs)))
    ∙ band_back band xs (inside band xs) h
    ∙ ap (λ (l : List Float). take band.start xs ++ (l ++ drop band.stop xs)) e
