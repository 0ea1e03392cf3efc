-- Whatever a read gives, a turn adds 120 blocks at most, holds less than one, and makes one read more.
use mathlib.Core.Path.{◌≡◌, refl}
use mathlib.Core.Bool.{true}
use mathlib.Core.List.{List}
use Prim.Native.Nat.{ℕ, ◌+◌, ◌≤◌, ◌<◌}
use native.Mathlib.Omega.{arith}
use lib.ListN.{length, take, length-take}
use Rattle.io_rest.specs.Rest.{whole_bytes}
use Rattle.io_rest.proofs.Rests.{whole_within, rest_below}
use Rattle.io_streams.specs.Reads.{Within, most_reads}
use Rattle.io_streams.specs.declared.Read.{Read}
use Rattle.io_streams.specs.declared.Read.TheVariants.{Bytes, End, Failed}
use Rattle.file_kept.specs.KeptIn.{kept_in}
use Rattle.file_kept.proofs.PieceBounds.{kept_120}
use Rattle.io_reading.specs.Stands.{after_read}
use Rattle.io_reading.specs.declared.Standing.{Standing}
use Rattle.io_reading.proofs.Ends.{stays}
use Rattle.io_reading_count.specs.FirstReading.{CountsRead, Turns}

-- a piece has 120 blocks at most, and so many that are kept
pub few_kept : (read : ℕ) (found : List ℕ) → read ≤ 61440 → kept_in (take (whole_bytes 512 read) found) ≤ 120
few_kept read found few =
    kept_120 (take (whole_bytes 512 read) found) (omega (arith, length-take (whole_bytes 512 read) found, whole_within 512 read))

-- what comes of a read, before it is counted
pub record InRange (standing result : Standing) : Type 0 where
  pub place : result.place ≤ standing.place + 120
  pub kept : result.kept ≤ standing.kept + 120
  pub held : result.held < 512
  pub reads : result.reads ≡ standing.reads

pub still_in_range : (got : Read) (standing : Standing) (found left : List ℕ) (result : Standing) → length found ≤ 61440 → standing.held < 512
    → Within standing.held (length found) got → CountsRead got standing found left result → InRange standing result
still_in_range (Bytes count) standing found left result short less w a =
    let read = standing.held + count in
    let few = few_kept read found (omega (arith, w.1)) in
    record {
      place = omega (arith, a.passes.place, w.1);
      kept = omega (arith, a.kept, few);
      held = omega (arith, a.passes.keeps.so_many, rest_below 512 read (omega arith));
      reads = a.passes.reads;
    }
still_in_range End standing found left result short less w a = rw a (record { place = omega arith; kept = omega arith; held = less; reads = refl })
still_in_range Failed standing found left result short less w a = rw a (record { place = omega arith; kept = omega arith; held = less; reads = refl })

-- once the read is counted, where it goes on with one left to make
pub turns : (standing stands result : Standing) → InRange standing stands → result ≡ after_read stands → (result.goes_on ≡ true → result.reads < most_reads) → Turns standing result
turns standing stands result r e left =
    let s = stays stands result e in
    record {
      place = omega (arith, s.place, r.place);
      kept = omega (arith, s.kept, r.kept);
      held = omega (arith, s.held, r.held);
      reads = omega (arith, s.reads, r.reads);
      left = left;
    }
