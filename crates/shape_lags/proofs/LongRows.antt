-- The bands of every row are long enough for the sums of their subbands: one computed test over the rows of both durations.
use mathlib.Core.Path.{◌≡◌, refl, ◌∙◌, ap}
use mathlib.Core.Bool.{Bool, true, false, ◌&&◌, ◌||◌}
use mathlib.Core.List.{List, [], ◌∷◌}
use Prim.Native.Nat.{ℕ, ◌+◌, ◌≤◌}
use native.Mathlib.Omega.{arith}
use borrow.Author.Tests.{leb-true, ne_eqb}
use lib.Dec.{eqb, leb}
use lib.ListN.{length, get_or}
use Rattle.law_lists.specs.Every.{every}
use Rattle.law_lists.proofs.Every.{and_left, and_right, any_default, every_at}
use Rattle.row_bands.specs.Bands.{rows_of, band_from, row_of, last_stop}
use Rattle.row_durations.specs.declared.Duration.{Duration}
use Rattle.row_durations.specs.declared.Duration.TheVariants.{Ten, SevenPointFive}
use Rattle.row_bands.specs.declared.Band.{Band}
use Rattle.shape_lags.specs.LongBands.{Long, LongRow}

long : Band → Bool
long b = leb (b.start + 8) b.first_cut && (leb (b.first_cut + 8) b.second_cut && leb (b.second_cut + 8) b.stop)

-- the test: the first band is long, and so is the second, if there is one
long_row : List ℕ → Bool
long_row row = long (band_from 0 row) && (eqb (band_from 4 row).stop 0 || long (band_from 4 row))

all_long : (d : Duration) → every long_row (rows_of d) ≡ true
unfolding long_row long
all_long Ten = refl
all_long SevenPointFive = refl

is_long : (b : Band) (lines : ℕ) → long b ≡ true → b.stop ≤ lines → Long b lines
unfolding long
is_long b lines e end =
    let first = leb (b.start + 8) b.first_cut in
    let second = leb (b.first_cut + 8) b.second_cut in
    let third = leb (b.second_cut + 8) b.stop in
    let rest = and_right first (second && third) e in
    record {
      lowest = omega (arith, leb-true (b.start + 8) b.first_cut (and_left first (second && third) e));
      middle = omega (arith, leb-true (b.first_cut + 8) b.second_cut (and_left second third rest));
      highest = omega (arith, leb-true (b.second_cut + 8) b.stop (and_right second third rest));
      end = end;
    }

or_else : (a b : Bool) → a || b ≡ true → a ≡ false → b ≡ true
or_else true b e f = cc
or_else false b e f = e

five_rows : (d : Duration) → length (rows_of d) ≡ 5
five_rows Ten = refl
five_rows SevenPointFive = refl

-- a row that passes, in the place of none
abbrev some_row : List ℕ
some_row = 0 ∷ 8 ∷ 16 ∷ 24 ∷ []

passes : (d : Duration) (bandwidth : ℕ) → bandwidth ≤ 4 → long_row (get_or (rows_of d) bandwidth []) ≡ true
unfolding long_row long
passes d bandwidth narrow =
    ap long_row (any_default (rows_of d) [] some_row bandwidth (omega (arith, five_rows d))) ∙ every_at long_row (rows_of d) (all_long d) some_row refl bandwidth

pub row_long : (d : Duration) (bandwidth lines : ℕ) → bandwidth ≤ 4 → last_stop (row_of d bandwidth) ≤ lines → LongRow (row_of d bandwidth) lines
unfolding row_of long_row
row_long d bandwidth lines narrow enough =
    let row = get_or (rows_of d) bandwidth [] in
    let first = long (band_from 0 row) in
    let none = eqb (band_from 4 row).stop 0 in
    let second = long (band_from 4 row) in
    let e = passes d bandwidth narrow in
    record {
      first = is_long (band_from 0 row) lines (and_left first (none || second) e) (omega (arith, enough));
      second = λ some. is_long (band_from 4 row) lines (or_else none second (and_right first (none || second) e) (ne_eqb _ 0 some)) (omega (arith, enough));
    }
