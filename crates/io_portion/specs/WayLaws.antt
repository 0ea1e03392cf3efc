-- The laws of both ways, proved: which number a block may have, and how much it gives.
use mathlib.Core.Path.{◌≡◌, refl, sym, ◌∙◌, ap}
use Prim.Native.Nat.{ℕ, ◌+◌, ◌*◌, ◌-◌, ◌/◌}
use native.Mathlib.Omega.{arith}
use lib.ListN.{length, take, drop, length-take}
use Rattle.law_lists.specs.Places.{part}
use Rattle.block_parts.specs.Parts.{count_of}
use Rattle.block_check.specs.Blocks.{read_verdict, write_verdict}
use Rattle.block_parts.proofs.Laid.{block_length}
use Rattle.block_check.proofs.Verdicts.{accepted_block, some_bytes, written_block, given_block}
use Rattle.io_portion.specs.OnePortion.{IsWay}

pub reads_blocks : IsWay 512 read_verdict (λ held. 0)
reads_blocks =
    record {
      enough = omega arith;
      most = omega arith;
      in_range = λ number portion given some e. (accepted_block number (take 512 portion) given (sym (some_bytes number portion some) ∙ e)).in_range;
      few = λ number portion given some e.
          let count : ℕ = count_of given in
          let its = (given_block number portion count given e some refl).0 in
          let same : given ≡ part 8 (8 + 24 * count) portion = cc (e, its.verdict) in
          omega (arith, ap length same, length-take (8 + 24 * count - 8) (drop 8 portion), its.few);
      known_within = λ held. omega arith;
    }

pub writes_blocks : IsWay 480 write_verdict (λ held. 24 * (held / 24))
writes_blocks =
    record {
      enough = omega arith;
      most = omega arith;
      in_range = λ number portion given some e. (written_block number portion given some e).0;
      few = λ number portion given some e.
          omega (arith, ap length (written_block number portion given some e).2, block_length number (take 480 portion) (omega (arith, length-take 480 portion)));
      known_within = λ held. omega arith;
    }
