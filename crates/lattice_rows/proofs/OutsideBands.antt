-- docs/RULES.md, "Band rows": no line outside the bands changes, and no result depends on one. The laws are of any call that checks its frame and then has
-- filters act on the bands of its row, whatever decides the filters; a refused call changes no line at all. Decode and encode are two of them.
use mathlib.Core.Path.{◌≡◌, refl, ◌∙◌}
use mathlib.Core.List.{List}
use Prim.Native.Nat.{ℕ, ◌≤◌, ◌<◌}
use native.Mathlib.Omega.{arith}
use lib.Ieee.{Float, nan}
use lib.ListN.{length, get_or}
use Rattle.check_verdicts.specs.Verdicts.{Verdict, accepted, refused, unless_refused}
use Rattle.row_durations.specs.Durations.{numbers_of}
use Rattle.row_bands.specs.Bands.{row_of, band_of, last_stop, inside}
use Rattle.row_durations.specs.declared.Duration.{Duration}
use Rattle.row_bands.specs.declared.Row.{Row}
use Rattle.row_bands.proofs.Bands.{SoundRow}
use Rattle.row_bands.proofs.Apart.{Outside, row_apart, early_outside, late_outside}
use Rattle.lattice_lines.specs.Lattice.{Lattice}
use Rattle.lattice_rows.specs.Filters.{Filter, row_filtered}
use Rattle.lattice_rows.proofs.Filters.{filtered_length, filtered_outside, same_inside}

module _ {A : Type 0} (lattice : Lattice) (duration : Duration) (bandwidth : ℕ) (verdict : List Float → Verdict A) (filters : A → List Filter)
    (count : ℕ) (counted : (a : A) → length (filters a) ≡ count)
    (sound : (lines : List Float) (a : A) → verdict lines ≡ accepted a → SoundRow (row_of duration bandwidth) (length lines)) where
  abbrev row : Row
  row = row_of duration bandwidth

  -- the spectrum after the call
  abbrev after : List Float → List Float
  after lines = unless_refused (verdict lines) (λ a. row_filtered lattice row (filters a) lines) lines

  below : (a : A) (k : ℕ) → k < length (filters a) → k < count
  below a k h = omega (arith, counted a, h)

  -- what holds of the lines that a call finds, and of those that an accepted call leaves, holds of those that it leaves
  by_verdict : (lines : List Float) (P : List Float → Type 0) → P lines → ((a : A) → SoundRow row (length lines) → P (row_filtered lattice row (filters a) lines))
      → P (after lines)
  by_verdict lines P found left = cases (verdict lines) refl
    where
      cases : (v : Verdict A) → verdict lines ≡ v → P (unless_refused v (λ a. row_filtered lattice row (filters a) lines) lines)
      cases (accepted a) e = left a (sound lines a e)
      cases (refused fault) e = found

  -- a call leaves as many lines as it finds
  pub as_many_lines : (lines : List Float) → length (after lines) ≡ length lines
  as_many_lines lines = by_verdict lines (λ l. length l ≡ length lines) refl (λ a s. filtered_length lattice row lines s (filters a))

  -- lines outside the bands of the filters never change
  pub outside_never_changes : (lines : List Float) (i : ℕ) → ((k : ℕ) → k < count → Outside (band_of row k) i) → get_or (after lines) i nan ≡ get_or lines i nan
  outside_never_changes lines i outside =
      by_verdict lines (λ l. get_or l i nan ≡ get_or lines i nan) refl
      (λ a s. filtered_outside lattice row lines s (filters a) i (λ k h. outside k (below a k h)))

  -- so no line before the duration's first line does, whatever the bandwidth and the filters, and none from the row's last stop on
  pub early_lines_stay : (lines : List Float) (i : ℕ) → i < (numbers_of duration).first_line → get_or (after lines) i nan ≡ get_or lines i nan
  early_lines_stay lines i h = outside_never_changes lines i (λ k acts. early_outside duration bandwidth k i h)

  pub late_lines_stay : (lines : List Float) (i : ℕ) → last_stop row ≤ i → get_or (after lines) i nan ≡ get_or lines i nan
  late_lines_stay lines i h = outside_never_changes lines i (λ k acts. late_outside duration bandwidth k i h)

  -- and they affect nothing: two spectra that agree inside the bands of the filters are left so, where the call says the same of both
  pub outside_affects_nothing : (xs ys : List Float) → verdict xs ≡ verdict ys → ((k : ℕ) → k < count → inside (band_of row k) xs ≡ inside (band_of row k) ys)
      → (k : ℕ) → k < count → inside (band_of row k) (after xs) ≡ inside (band_of row k) (after ys)
  outside_affects_nothing xs ys same agree k acts = rw same (cases (verdict ys) refl)
    where
      cases : (v : Verdict A) → verdict ys ≡ v
          → inside (band_of row k) (unless_refused v (λ a. row_filtered lattice row (filters a) xs) xs)
          ≡ inside (band_of row k) (unless_refused v (λ a. row_filtered lattice row (filters a) ys) ys)
      cases (accepted a) e =
          same_inside lattice row xs ys (sound xs a (same ∙ e)) (sound ys a e) (row_apart duration bandwidth) (filters a) (λ j h. agree j (below a j h)) k
          (omega (arith, counted a, acts))
      cases (refused fault) e = agree k acts
