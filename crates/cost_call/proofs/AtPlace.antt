-- The filters of sound side data, one at a time, for a loop over the orders of the counted filters and the eights of the indices.
use mathlib.Core.Path.{◌≡◌, refl, ◌∙◌}
use mathlib.Core.List.{List, []}
use Prim.Native.Nat.{ℕ, zero, suc, ◌*◌, ◌/◌, ◌≤◌, ◌<◌}
use native.Mathlib.Omega.{arith}
use lib.ListN.{length, get_or, take, drop, length-take}
use lib.Seq.{get_or-take}
use denote.Ref.{Bor}
use Rattle.std.specs.Prelude.{Some}
use Rattle.std.specs.Simd.{first_chunks}
use Rattle.std.specs.Iterator.{Yields}
use Rattle.std.specs.Slice.Iter.{iter_rest}
use Rattle.std.specs.Iterator.Adapters.{zip_first, zip_second}
use Rattle.std.specs.declared.iter.Zip.{Zip}
use Rattle.std.specs.declared.slice.Iter.{Iter}
use Rattle.std.proofs.iter.Yields.{fronts}
use Rattle.std.proofs.lemmas.Iterator.{zips}
use Rattle.std.proofs.lemmas.Slice.Zip.{zip_turn}
use Rattle.law_lists.specs.Every.{EachAtMost}
use Rattle.law_lists.proofs.Every.{part_at_most}
use Rattle.check_limits.proofs.Stands.{none_over}
use Rattle.check_side.specs.Sides.{SoundSide}
use Rattle.cost_filter.specs.FilterCost.{filter_cost, FilterPriced}

-- the eights of sixteen indices
abbrev pub eights : List ℕ → List (List ℕ)
eights indices = first_chunks 8 (length indices / 8) indices

eight_at : (indices : List ℕ) → length indices ≡ 16 → (filter : ℕ) → filter < 2 → (d : List ℕ) → get_or (eights indices) filter d ≡ take 8 (drop (8 * filter) indices)
eight_at indices sixteen zero h d = rw sixteen
eight_at indices sixteen (suc zero) h d = rw sixteen
eight_at indices sixteen (suc (suc filter)) h d = absurd (omega arith)

-- What is known of the pair that a turn gives: it is a counted filter's order and its eight indices.
pub record ItsTurn (filters : ℕ) (orders indices : List ℕ) (filter order : ℕ) (eight : List ℕ) : Type 0 where
  pub counted : filter < filters
  pub its_order : order ≡ get_or orders filter 0
  pub its_eight : eight ≡ take 8 (drop (8 * filter) indices)
  pub at_most_8 : order ≤ 8
  pub at_most_16 : EachAtMost 16 eight

module _ (filters : ℕ) (orders indices : List ℕ) (sound : SoundSide filters orders indices) where
  -- a place that the code reads
  pub place_at : (filter : ℕ) → filter < filters → ItsTurn filters orders indices filter (get_or orders filter 0) (get_or (eights indices) filter [])
  place_at filter counted =
      let below : filter < 2 = omega (arith, sound.count_at_most_2) in
      let its_eight = eight_at indices sound.sixteen_indices filter below [] in
      record {
        counted = counted;
        its_order = refl;
        its_eight = its_eight;
        at_most_8 = none_over 8 0 orders sound.orders_at_most_8 filter;
        at_most_16 = rw its_eight (part_at_most 16 8 (8 * filter) indices (none_over 16 0 indices sound.indices_at_most_16));
      }

  -- the pair that an iterator over both gives
  pub turn_at : (passed : List (Bor ℕ × Bor (List ℕ))) (s t u : Zip (Iter ℕ) (Iter (List ℕ))) → iter_rest (zip_first s) ≡ take filters orders
      → iter_rest (zip_second s) ≡ eights indices → Yields (zips fronts fronts) s passed t → (order : Bor ℕ) (eight : Bor (List ℕ))
      → zips fronts fronts t (Some (order, eight)) u → ItsTurn filters orders indices (length passed) order.now eight.now
  turn_at passed s t u first second y order eight step =
      let filter = length passed in
      let turn = zip_turn (take filters orders) (eights indices) passed s t u (Some (order, eight)) first second y (order, eight) refl step in
      let counted : filter < filters = omega (arith, length-take filters orders) in
      let its_order : order.now ≡ get_or orders filter 0 = turn.2 0 ∙ get_or-take filters orders filter 0 counted in
      let its_eight : eight.now ≡ get_or (eights indices) filter [] = turn.3 [] in
      rw (its_order, its_eight) (place_at filter counted)

-- what is priced at a turn is the filter's cost
pub cost_at : (filters : ℕ) (orders indices : List ℕ) (filter order : ℕ) (eight : List ℕ) → ItsTurn filters orders indices filter order eight
    → (weighting cost : ℕ) → FilterPriced weighting order eight cost → cost ≡ filter_cost weighting (get_or orders filter 0) (take 8 (drop (8 * filter) indices))
cost_at filters orders indices filter order eight turn weighting cost priced = rw (← turn.its_order, ← turn.its_eight) priced.cost
