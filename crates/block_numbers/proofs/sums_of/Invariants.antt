-- The invariant: each sum so far, with what is still to come, is the whole. A byte adds at most 255 to the plain sum and at most 508 times 255 to
-- the weighted one, so that neither wraps within 508 bytes.
use Rattle.std.proofs.Common.{◌≡◌, ◌+◌, ◌*◌, ◌≤◌, drop}
use Rattle.law_lists.specs.Counted.{total}
use Rattle.block_numbers.specs.Sums.{weighted_from}
use Rattle.block_numbers.proofs.sums_of.Given as goal

abbrev pub invariant-loop-place : goal.invariant-loop-place
invariant-loop-place l = record {
  plain_small : l.plain ≤ 255 * l.place;
  weighted_small : l.weighted ≤ 129540 * l.place;
  plain_so_far : l.plain + total (drop l.place l.summed) ≡ total l.summed;
  weighted_so_far : l.weighted + weighted_from l.place (drop l.place l.summed) ≡ weighted_from 0 l.summed;
}
