-- C-15: the bits of a line of the bits program round each counted filter up on its own, by the law of cost_call.
use mathlib.Core.Path.{◌≡◌, refl}
use mathlib.Core.Bool.{Bool, true, false, cond}
use mathlib.Core.List.{List, [], ◌∷◌, ◌++◌}
use Prim.Native.Nat.{ℕ}
use native.Mathlib.Omega.{arith}
use lib.Dec.{ltb}
use lib.ListN.{length, replicate}
use Rattle.law_lists.specs.Counted.{counted, total}
use Rattle.check_verdicts.specs.Verdicts.{Verdict, accepted}
use Rattle.check_limits.specs.LowestOver.{lowest_over}
use Rattle.check_side.specs.Sides.{side_checks}
use Rattle.cost_tables.specs.Tables.{of_order, cells_from}
use Rattle.cost_filter.specs.FilterCost.{order_cost, index_costs, filter_cost, whole_bits, filter_bits}
use Rattle.cost_call.specs.Cost.{counted_bits, counted_costs, each_rounded, cost_of}
use Rattle.cost_call.proofs.Costs.{cost_rounded}
use Rattle.cost_bytes.specs.SideBytes.{Fields, short, costs, cost_of_fields, fields_of, bytes_of, line_of}

-- the costs of the counted filters of some side data, in 2048ths of a bit
abbrev pub costs_of_fields : Fields → List ℕ
costs_of_fields fields = counted_costs fields.weighting fields.filters fields.orders fields.indices

pub fields_rounded : (fields : Fields) (bits : ℕ) → accepted bits ≡ cost_of_fields fields → bits ≡ each_rounded (costs_of_fields fields)
fields_rounded fields = cost_rounded fields.weighting fields.filters fields.orders fields.indices

-- index 9 and seven eights
abbrev pub nine : List ℕ
nine = 9 ∷ replicate 7 8

-- a line that has bits is that of a whole record
whole : (is-short : Bool) (bits : ℕ) (verdict : Verdict ℕ) → costs (accepted bits) ≡ cond is-short short (costs verdict) → accepted bits ≡ verdict
whole true bits verdict e = let z : ◌≡◌ {A = ℕ} 0 1 = cc in absurd (omega arith)
whole false bits verdict e = cc

pub line_rounded : (bytes : List ℕ) (bits : ℕ) → costs (accepted bits) ≡ line_of bytes → bits ≡ each_rounded (costs_of_fields (fields_of bytes))
unfolding line_of
line_rounded bytes bits e = fields_rounded (fields_of bytes) bits (whole (ltb (length bytes) 20) bits (cost_of_fields (fields_of bytes)) e)

-- a case that tells both ways of rounding apart: order 1 and index 9 in two filters, each of which takes 13 bits; rounded up together they would take 25
two_nines : line_of (bytes_of (record { weighting = 0; filters = 2; orders = 1 ∷ 1 ∷ []; indices = nine ++ nine })) ≡ costs (accepted 26)
unfolding line_of fields_of cost_of side_checks lowest_over counted_bits counted_costs counted total filter_bits whole_bits filter_cost order_cost of_order index_costs cells_from
two_nines = refl
