-- A narration of one record, computed by the checker from the definitions: M2 at 10 ms and bandwidth 0, which costs 13 bits, as the first
-- block of a file, and two records that differ in their first index. The block's first and last bytes are those that docs/RULES.md, "Block files (C-11)", gives by hand: the record's bytes add
-- up to 144 and the header's to 2, so the plain sum is 146. And the records of the bad day: with order 9 it is not sound, nor is one whose bits are
-- one off, or one cut short.
use Rattle.std.specs.Prelude.{◌≡◌, refl, true, false, List, [], ◌∷◌, ◌++◌, map, ℕ, take, drop, replicate}
use Rattle.law_lists.specs.Counted.{counted, total}
use Rattle.law_lists.specs.Portions.{portions_in, portions}
use Rattle.check_verdicts.specs.Verdicts.{numbered, accepted, refused}
use Rattle.check_limits.specs.LowestOver.{lowest_over}
use Rattle.check_side.specs.Sides.{side_checks}
use Rattle.cost_tables.specs.Tables.{of_order, cells_from}
use Rattle.cost_filter.specs.FilterCost.{order_cost, index_costs, filter_cost, whole_bits, filter_bits}
use Rattle.cost_call.specs.Cost.{counted_bits, cost_of}
use Rattle.block_numbers.specs.Sums.{weighted_from, sums_of}
use Rattle.block_record.specs.RecordBytes.{sound_record}
use Rattle.block_parts.specs.Parts.{body_bytes, block_bytes, sums_right, header_right, sound_records}
use Rattle.block_check.specs.Blocks.{block_verdict}

-- one filter of this weighting, order and first index, with these bits
abbrev one_filter : ℕ → ℕ → ℕ → ℕ → List ℕ
one_filter weighting order index bits = 0 ∷ 0 ∷ 1 ∷ weighting ∷ order ∷ 0 ∷ index ∷ replicate 15 8 ++ (bits ∷ 0 ∷ [])

abbrev m2 : List ℕ
m2 = one_filter 0 1 9 13

abbrev block : List ℕ
block = block_bytes 0 m2

-- number 0, one record, edition 1, four zeros; two bytes of fill, and the sums 146 and 5464, each little end first
pub its_ends : take 8 block ++ drop 506 block ≡ 0 ∷ 0 ∷ 1 ∷ 1 ∷ 0 ∷ 0 ∷ 0 ∷ 0 ∷ 0 ∷ 0 ∷ 146 ∷ 0 ∷ 88 ∷ 21 ∷ []
unfolding block_bytes body_bytes sums_of weighted_from total
its_ends = refl

-- M2; the two that differ; order 9; one bit too many; cut short
pub sound_or_not : map sound_record (m2 ∷ one_filter 1 1 9 10 ∷ one_filter 1 1 10 11 ∷ one_filter 0 9 9 13 ∷ one_filter 0 1 9 14 ∷ take 23 m2 ∷ [])
    ≡ true ∷ true ∷ true ∷ false ∷ false ∷ false ∷ []
unfolding sound_record cost_of counted_bits counted total filter_bits whole_bits filter_cost order_cost index_costs of_order cells_from lowest_over side_checks
sound_or_not = refl

-- read as block 0 it gives the record, and as block 1 it is refused with 11
pub read_as : block_verdict 0 block ∷ block_verdict 1 block ∷ [] ≡ accepted m2 ∷ refused (numbered 11) ∷ []
unfolding block_verdict sums_right header_right sound_records block_bytes body_bytes sums_of weighted_from portions portions_in sound_record cost_of counted_bits counted total filter_bits whole_bits filter_cost order_cost index_costs of_order cells_from lowest_over side_checks
read_as = refl
