-- Demand 3 over any two filters whose coefficients are the table's, with the states carried from band to band.
use mathlib.Core.Path.{◌≡◌, refl, sym, ap, ◌∙◌, subst}
use mathlib.Core.List.{List, map}
use Prim.Native.Nat.{ℕ, ◌+◌, ◌-◌, ◌<◌}
use native.Mathlib.Omega.{arith}
use lib.Dec.{T}
use lib.ListN.{length, get_or, length-map, get_or-map}
use lib.IntN.{ℤ}
use lib.Ieee.{Float, nan, binary32, fits}
use Rattle.law_lists.proofs.Every.{any_default}
use Rattle.law_rounding.specs.Units.{AtMost}
use Rattle.law_rounding.proofs.Factors.{Factor}
use Rattle.index_coefficients.specs.Coefficients.{coefficient_of}
use Rattle.index_coefficients.proofs.CoefficientFactors.{coefficient_factor}
use Rattle.row_bands.specs.Bands.{row_of, band_of, inside}
use Rattle.row_durations.specs.declared.Duration.{Duration}
use Rattle.row_bands.specs.declared.Row.{Row}
use Rattle.row_bands.proofs.Bands.{Fits, SoundRow}
use Rattle.row_bands.proofs.Apart.{inside_length, inside_at, row_apart, in_row}
use Rattle.lattice_lines.specs.Lattice.{at_rest, states_by}
use Rattle.lattice_encoder.specs.EncoderLattice.{line_encoded}
use Rattle.lattice_rows.proofs.Filters.{part_filtered, filtered_inside}
use Rattle.side_quantized.specs.Quantized.{quantized_of, absent}
use Rattle.side_quantized.specs.Within.{Within8}
use Rattle.side_quantized.specs.declared.Quantized.{Quantized}
use Rattle.side_data.specs.declared.SideData.{SideData}
use Rattle.side_encoded.specs.SideFilters.{filters_in, filtered_by}
use Rattle.lattice_exact.specs.Exact.{exact_rest}
use Rattle.lattice_exact.proofs.NearLattice.{Reading, reading, Factors, at_rest_lem, Through, lines_near}
use Rattle.side_near.specs.NearExact.{first_exact, exact_carried, second_exact, LinesAtMost, BandsNear, NearExact}

-- ---- filters whose coefficients are their indices'

pub record OfTable (f : Quantized) : Type 0 where
  pub within : Within8 f
  pub coded : f.coefficients ≡ map coefficient_of f.indices

factors : (f : Quantized) → OfTable f → Factors f.coefficients
factors f t k l =
    let e : get_or f.coefficients k nan ≡ coefficient_of (get_or f.indices k 0) =
    ap (λ (q : List Float). get_or q k nan) t.coded
    ∙ any_default (map coefficient_of f.indices) nan (coefficient_of 0) k (omega (arith, length-map f.indices coefficient_of, t.within.eight_indices))
    ∙ get_or-map coefficient_of f.indices k 0
    in
    subst Factor (sym e) (coefficient_factor (get_or f.indices k 0))

pub quantized_of_table : (r : List Float) → Within8 (quantized_of r) → OfTable (quantized_of r)
unfolding quantized_of
quantized_of_table r w = record { within = w; coded = refl }

pub absent_of_table : Within8 absent → OfTable absent
unfolding absent coefficient_of
absent_of_table w = record { within = w; coded = refl }

-- ---- any two such filters

module _ (d : Duration) (bandwidth weighting filters : ℕ) (a b : Quantized) (ta : OfTable a) (tb : OfTable b) (xs : List Float)
    (sound : SoundRow (row_of d bandwidth) (length xs)) (fit : (j : ℕ) → T (fits binary32 (get_or xs j nan))) where
  abbrev row : Row
  row = row_of d bandwidth

  abbrev side : SideData
  side = record { weighting = weighting; filters = filters; first = a; second = b }

  module _ (m : ℤ) (r : Reading m) (small : LinesAtMost m row xs) where
    -- the lines of a band are among those that are small
    band_fits : (k j : ℕ) → Fits (band_of row k) (length xs) → j < length (inside (band_of row k) xs) → T (fits binary32 (get_or (inside (band_of row k) xs) j nan))
    band_fits k j its l = rw (inside_at (band_of row k) xs j (omega (arith, inside_length (band_of row k) xs its))) (fit ((band_of row k).start + j))

    band_small : (k j : ℕ) → Fits (band_of row k) (length xs) → j < length (inside (band_of row k) xs) → AtMost m (get_or (inside (band_of row k) xs) j nan)
    band_small k j its l =
        let inner : j < (band_of row k).stop - (band_of row k).start = omega (arith, inside_length (band_of row k) xs its) in
        let place = in_row d bandwidth k ((band_of row k).start + j) (omega arith) (omega arith) in
        rw (inside_at (band_of row k) xs j inner) (small ((band_of row k).start + j) place.0 place.1)

    through_first : Through m r a.coefficients (factors a ta) a.order ta.within.order_at_most_8 at_rest (inside row.first xs) exact_rest
    through_first =
        lines_near m r a.coefficients (factors a ta) a.order ta.within.order_at_most_8 at_rest (inside row.first xs) exact_rest (at_rest_lem r.h)
        (λ j l. band_fits 0 j sound.first_fits l) (λ j l. band_small 0 j sound.first_fits l)

    through_second : Through m r b.coefficients (factors b tb) b.order tb.within.order_at_most_8
        (states_by line_encoded a.coefficients a.order at_rest (inside row.first xs)) (inside row.second xs) (exact_carried row side xs)
    unfolding exact_carried
    through_second =
        lines_near m r b.coefficients (factors b tb) b.order tb.within.order_at_most_8 _ (inside row.second xs) (exact_carried row side xs)
        through_first.after
        (λ j l. band_fits 1 j sound.second_fits l) (λ j l. band_small 1 j sound.second_fits l)

    bands_near : BandsNear m row side xs (filtered_by side row xs)
    unfolding first_exact second_exact filtered_by part_filtered
    bands_near =
        let becomes = filtered_inside line_encoded row xs sound (row_apart d bandwidth) (filters_in side) in
        record { first = rw (becomes 0 (omega arith)) through_first.lines; second = rw (becomes 1 (omega arith)) through_second.lines }

  pub filters_near : NearExact row side xs (filtered_by side row xs)
  filters_near m range small = bands_near m (reading m range) small
