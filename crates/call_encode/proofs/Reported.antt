-- What the encoder reports is sound: the decoder's checks of side data and the cost door accept it, and the bits reported are the cost door's.
use mathlib.Core.Path.{◌≡◌, ◌∙◌}
use mathlib.Core.Bool.{Bool, true, false, cond}
use mathlib.Core.List.{List}
use Prim.Native.Nat.{ℕ, ◌≤◌}
use native.Mathlib.Omega.{arith}
use lib.Dec.{ltb}
use borrow.Author.Tests.{le-ltb, eq-eqb}
use lib.Ieee.{Float}
use lib.ListN.{length}
use Rattle.check_verdicts.specs.Verdicts.{Verdict, accepted, check}
use Rattle.check_side.specs.Sides.{side_checks, SoundSide}
use Rattle.cost_call.specs.Cost.{cost_of, counted_bits}
use Rattle.cost_call.proofs.Costs.{counted_at_most}
use Rattle.row_durations.specs.Durations.{duration_of, weighting_of, numbers_of, DurationNumbers}
use Rattle.row_bands.specs.declared.Row.{Row}
use Rattle.shape_frame.specs.FrameSide.{side_of}
use Rattle.call_encode.specs.Encoder.{weighting_in}
use Rattle.side_data.specs.Side.{orders_in, indices_in, bits_of}
use Rattle.shape_frame.proofs.FrameLimits.{side_sound}

-- ---- the side data of a frame

module _ (row : Row) (lines : List Float) (flag : Bool) (weighting : ℕ) where
  -- at most 168 bits
  pub reported_bits_at_most : bits_of (side_of row lines flag weighting) ≤ 168
  reported_bits_at_most =
      let s = side_of row lines flag weighting in
      counted_at_most s.weighting s.filters (orders_in s) (indices_in s) (side_sound row lines flag weighting)

-- side data that are sound pass checks 4 to 7, for decode and cost
pub sound_passes : {A : Type 0} (filters : ℕ) (orders indices : List ℕ) → SoundSide filters orders indices → (next : Verdict A) → side_checks filters orders indices next ≡ next
unfolding side_checks
sound_passes filters orders indices s next =
    rw (eq-eqb (length orders) 2 s.two_orders, eq-eqb (length indices) 16 s.sixteen_indices, le-ltb 2 filters s.count_at_most_2, s.orders_at_most_8, s.indices_at_most_16)

weighting_at_most_1 : (d : DurationNumbers) (nbits : ℕ) → weighting_of d nbits ≤ 1
unfolding weighting_of
weighting_at_most_1 d nbits = either (ltb nbits d.weighting_limit)
  where
    either : (b : Bool) → cond b 1 0 ≤ 1
    either true = omega arith
    either false = omega arith

costs : (weighting filters : ℕ) (orders indices : List ℕ) → SoundSide filters orders indices → weighting ≤ 1
    → cost_of weighting filters orders indices ≡ accepted (counted_bits weighting filters orders indices)
unfolding cost_of
costs weighting filters orders indices s w =
    sound_passes filters orders indices s (check 8 (ltb 1 weighting) (accepted (counted_bits weighting filters orders indices))) ∙ rw (le-ltb 1 weighting w)

its_weighting : (duration nbits : ℕ) (row : Row) (lines : List Float) (flag : Bool) → (side_of row lines flag (weighting_in duration nbits)).weighting ≤ 1
unfolding side_of
its_weighting duration nbits row lines flag = weighting_at_most_1 (numbers_of (duration_of duration)) nbits

-- the cost door gives the reported side data the reported bits
pub reported_bits : (duration nbits : ℕ) (row : Row) (lines : List Float) (flag : Bool) →
    let s = side_of row lines flag (weighting_in duration nbits) in
    cost_of s.weighting s.filters (orders_in s) (indices_in s) ≡ accepted (bits_of s)
reported_bits duration nbits row lines flag =
    let s = side_of row lines flag (weighting_in duration nbits) in
    costs s.weighting s.filters (orders_in s) (indices_in s) (side_sound row lines flag (weighting_in duration nbits)) (its_weighting duration nbits row lines flag)
