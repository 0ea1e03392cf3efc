-- What the encoder reports is within the limits: orders at most 8, eight indices at most 16 for each filter.
use mathlib.Core.Path.{refl}
use mathlib.Core.Bool.{Bool, true, false, cond}
use mathlib.Core.List.{List, [], ◌∷◌, ◌++◌, map}
use Prim.Native.Nat.{ℕ, zero, suc, ◌≤◌}
use native.Mathlib.Omega.{arith}
use lib.Ieee.{Float}
use lib.ListN.{length-append}
use Rattle.law_lists.specs.Every.{EachAtMost}
use Rattle.law_lists.proofs.Every.{both_at_most}
use Rattle.check_limits.specs.LowestOver.{lowest_over}
use Rattle.check_limits.proofs.Stands.{none_over, none_found}
use Rattle.check_side.specs.Sides.{SoundSide}
use Rattle.index_choice.specs.Indices.{index_of}
use Rattle.index_choice.proofs.Indices.{index_at_most}
use Rattle.shape_filter.specs.Analysis.{reflections_of}
use Rattle.shape_filter.proofs.FilterReflections.{eight_reflections}
use Rattle.row_bands.specs.declared.Band.{Band}
use Rattle.row_bands.specs.declared.Row.{Row}
use Rattle.shape_frame.specs.FrameSide.{filter_of, second_of, has_second, side_of}
use Rattle.side_quantized.specs.Quantized.{quantized_of, absent}
use Rattle.side_quantized.specs.Within.{Within8}
use Rattle.side_data.specs.Side.{orders_in, indices_in}
use Rattle.side_data.specs.Limits.{Reported}
use Rattle.side_quantized.proofs.Within.{quantized_within, absent_within}
use Rattle.side_quantized.specs.declared.Quantized.{Quantized}

pub filter_within : (b : Band) (lines : List Float) (flag : Bool) (weighting : ℕ) → Within8 (filter_of b lines flag weighting)
unfolding filter_of
filter_within b lines flag weighting = quantized_within (reflections_of b lines flag weighting) (eight_reflections b lines flag weighting)

either_within : (two : Bool) (f g : Quantized) → Within8 f → Within8 g → Within8 (cond two f g)
either_within true f g p q = p
either_within false f g p q = q

pub second_within : (row : Row) (lines : List Float) (flag : Bool) (weighting : ℕ) → Within8 (second_of row lines flag weighting)
unfolding second_of
second_within row lines flag weighting = either_within (has_second row) _ _ (filter_within row.second lines flag weighting) absent_within

one_or_two : (two : Bool) → (1 ≤ cond two 2 1) × (cond two 2 1 ≤ 2)
one_or_two true = (omega arith, omega arith)
one_or_two false = (omega arith, omega arith)

-- what the analysis of a frame leaves
pub side_reported : (row : Row) (lines : List Float) (flag : Bool) (weighting : ℕ) → Reported (side_of row lines flag weighting)
unfolding side_of
side_reported row lines flag weighting =
    record {
      first = filter_within row.first lines flag weighting;
      second = second_within row lines flag weighting;
      one = (one_or_two (has_second row)).0;
      two = (one_or_two (has_second row)).1;
    }

-- ---- numbers within a limit

indices_at_most : (r : List Float) → EachAtMost 16 (map index_of r)
indices_at_most [] place = omega arith
indices_at_most (x ∷ xs) zero = index_at_most x
indices_at_most (x ∷ xs) (suc place) = indices_at_most xs place

filter_indices : (b : Band) (lines : List Float) (flag : Bool) (weighting : ℕ) → EachAtMost 16 (filter_of b lines flag weighting).indices
unfolding filter_of quantized_of
filter_indices b lines flag weighting = indices_at_most (reflections_of b lines flag weighting)

second_indices : (row : Row) (lines : List Float) (flag : Bool) (weighting : ℕ) → EachAtMost 16 (second_of row lines flag weighting).indices
unfolding second_of absent lowest_over
second_indices row lines flag weighting = either (has_second row)
  where
    either : (two : Bool) → EachAtMost 16 (cond two (filter_of row.second lines flag weighting) absent).indices
    either true = filter_indices row.second lines flag weighting
    either false = none_over 16 0 absent.indices refl

both_orders : (a b : ℕ) → a ≤ 8 → b ≤ 8 → EachAtMost 8 (a ∷ b ∷ [])
both_orders a b p q zero = p
both_orders a b p q (suc zero) = q
both_orders a b p q (suc (suc place)) = omega arith

-- orders at most 8, indices at most 16, lists of their lengths, one or two filters
pub side_sound : (row : Row) (lines : List Float) (flag : Bool) (weighting : ℕ)
    → SoundSide (side_of row lines flag weighting).filters (orders_in (side_of row lines flag weighting)) (indices_in (side_of row lines flag weighting))
unfolding side_of
side_sound row lines flag weighting =
    let a = filter_of row.first lines flag weighting in
    let b = second_of row lines flag weighting in
    let p = filter_within row.first lines flag weighting in
    let q = second_within row lines flag weighting in
    record {
      two_orders = refl;
      sixteen_indices = omega (arith, length-append a.indices b.indices, p.eight_indices, q.eight_indices);
      count_at_most_2 = (one_or_two (has_second row)).1;
      orders_at_most_8 = none_found 8 0 (a.order ∷ b.order ∷ []) (both_orders a.order b.order p.order_at_most_8 q.order_at_most_8);
      indices_at_most_16 = none_found 16 0 (a.indices ++ b.indices) (both_at_most 16 a.indices b.indices (filter_indices row.first lines flag weighting) (second_indices row lines flag weighting));
    }
