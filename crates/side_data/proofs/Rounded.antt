-- C-15: the bits of side data round each counted filter up on its own, by the law of cost_call. The encoder's result has these bits.
use mathlib.Core.Path.{◌≡◌, refl}
use mathlib.Core.List.{List, ◌∷◌}
use Prim.Native.Nat.{ℕ}
use lib.ListN.{replicate}
use Rattle.law_rounding.specs.Floats.{f0}
use Rattle.law_lists.specs.Counted.{counted, total}
use Rattle.cost_tables.specs.Tables.{of_order, cells_from}
use Rattle.cost_filter.specs.FilterCost.{order_cost, index_costs, filter_cost, whole_bits, filter_bits}
use Rattle.cost_call.specs.Cost.{counted_bits, counted_costs, each_rounded}
use Rattle.cost_call.proofs.Costs.{each_rounded_lem}
use Rattle.side_quantized.specs.declared.Quantized.{Quantized}
use Rattle.side_data.specs.Side.{orders_in, indices_in, bits_of}
use Rattle.side_data.specs.declared.SideData.{SideData}

-- the costs of the counted filters of side data, in 2048ths of a bit
abbrev pub costs_in : SideData → List ℕ
costs_in side = counted_costs side.weighting side.filters (orders_in side) (indices_in side)

pub side_rounded : (side : SideData) → bits_of side ≡ each_rounded (costs_in side)
side_rounded side = each_rounded_lem side.weighting side.filters (orders_in side) (indices_in side)

-- a case that tells both ways of rounding apart: order 1 and index 9 in two filters, each of which takes 13 bits; rounded up together they would take 25
abbrev nine : Quantized
nine = record { order = 1; indices = 9 ∷ replicate 7 8; coefficients = replicate 8 f0 }

two_nines : bits_of (record { weighting = 0; filters = 2; first = nine; second = nine }) ≡ 26
unfolding counted_bits counted_costs counted total filter_bits whole_bits filter_cost order_cost of_order index_costs cells_from
two_nines = refl
