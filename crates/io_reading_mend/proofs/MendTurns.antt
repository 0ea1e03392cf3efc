-- Whatever a read gives: a turn adds 120 blocks at most and holds less than one, there is a number for every block that is kept, whether or not it
-- could be written, and no such block has more than 255 records.
use mathlib.Core.Path.{◌≡◌, refl, ap, ◌∙◌}
use mathlib.Core.Bool.{Bool, true, false}
use mathlib.Core.List.{List}
use Prim.Native.Nat.{ℕ, ◌+◌, ◌-◌, ◌*◌, ◌≤◌, ◌<◌}
use native.Mathlib.Omega.{arith}
use lib.ListN.{length}
use Rattle.std.specs.Prelude.{Result, Ok, Err, IfOk}
use Rattle.io_rest.proofs.Rests.{rest_below}
use Rattle.io_streams.specs.Reads.{Within, most_reads}
use Rattle.file_kept.proofs.PieceBounds.{records_255}
use Rattle.io_streams.specs.declared.Read.{Read}
use Rattle.io_streams.specs.declared.Read.TheVariants as read
use Rattle.io_reading.specs.Stands.{after_read}
use Rattle.io_reading.specs.declared.Standing.{Standing}
use Rattle.io_reading.proofs.Ends.{stays}
use Rattle.io_reading_mend.specs.SecondReading.{whole_blocks, has_numbers, MendsPiece, TakesPiece, MendsRead, tallied, settled_as, read_counted, Turn, Turns}
use Rattle.io_reading_mend.specs.declared.Break.{Break}
use Rattle.io_reading_mend.specs.declared.TheConstants.{MOST_RECORDS}
use Rattle.io_reading_mend.specs.declared.Mending.{Mending}
use Rattle.io_reading_mend.specs.declared.Turned.{Turned}

-- what comes of a read, before it is written and counted
record InRange (standing : Standing) (turned : Turned) : Type 0 where
  pub place : turned.standing.place ≤ standing.place + 120
  pub kept : turned.standing.kept ≤ 65536
  pub held : turned.standing.held < 512
  pub reads : turned.standing.reads ≡ standing.reads
  pub few : turned.records + 255 * standing.kept ≤ 255 * turned.standing.kept

-- and once it is written, or could not be, or the reading has broken off
pub record Settled (mending result : Mending) : Type 0 where
  pub place : result.standing.place ≤ mending.standing.place + 120
  pub kept : result.standing.kept ≤ 65536
  pub held : result.standing.held < 512
  pub reads : result.standing.reads ≡ mending.standing.reads
  pub records : result.records ≤ 255 * result.standing.kept

module _ (mending : Mending) (found left output report : List ℕ) (fits : mending.standing.kept ≤ 65536) (less : mending.standing.held < 512) where
  -- by how many bytes there are to write
  records_few : (read : ℕ) (turned : Turned) → MendsPiece mending.standing read found left output report turned
      → turned.records + 255 * mending.standing.kept ≤ 255 * turned.standing.kept
  records_few read turned a =
      let more = turned.standing.kept - mending.standing.kept in
      omega (arith, records_255 output more turned.records (omega (arith, a.rescues.few_bytes)) a.records, a.rescues.few_bytes)

  piece_in_range : (numbers : Bool) (read : ℕ) (turned : Turned) → TakesPiece numbers mending.standing read found left output report (Ok turned) → read ≤ 61440
      → InRange mending.standing turned
  piece_in_range true read turned a few =
      record {
        place = omega (arith, a.passes.place);
        kept = a.rescues.in_range;
        held = omega (arith, a.passes.keeps.so_many, rest_below 512 read (omega arith));
        reads = a.passes.reads;
        few = records_few read turned a;
      }
  piece_in_range false read turned a few = cc a

  in_range : (got : Read) (turned : Turned) → MendsRead got mending.standing found left output report (Ok turned) → length found ≤ 61440
      → Within mending.standing.held (length found) got → InRange mending.standing turned
  in_range (read.Bytes count) turned a short w =
      let read = mending.standing.held + count in
      piece_in_range (has_numbers mending.standing.kept (whole_blocks read found)) read turned a (omega (arith, w.1))
  in_range read.End turned a short w = rw (a.ends, a.no_records) (record { place = omega arith; kept = fits; held = less; reads = refl; few = omega arith })
  in_range read.Failed turned a short w = cc a

  pub records_counted : (got : Read) (came : Result Turned Break) → MendsRead got mending.standing found left output report came → length found ≤ 61440
      → Within mending.standing.held (length found) got → IfOk came (λ turned. turned.records ≤ MOST_RECORDS)
  records_counted got (Ok turned) a short w = let r = in_range got turned a short w in omega (arith, r.few, r.kept)
  records_counted got (Err why) a short w = tt

  module _ (few : mending.records ≤ 255 * mending.standing.kept) where
    tallied_in_range : (written : Bool) (turned : Turned) → InRange mending.standing turned → Settled mending (tallied written mending turned report)
    tallied_in_range true turned r = record { place = r.place; kept = r.kept; held = r.held; reads = r.reads; records = omega (arith, r.few) }
    tallied_in_range false turned r = record { place = r.place; kept = r.kept; held = r.held; reads = r.reads; records = omega (arith, r.few) }

    pub still_in_range : (got : Read) (came : Result Turned Break) → MendsRead got mending.standing found left output report came → length found ≤ 61440
        → Within mending.standing.held (length found) got → (written : Bool) → Settled mending (settled_as written mending came report)
    still_in_range got (Ok turned) a short w written = tallied_in_range written turned (in_range got turned a short w)
    still_in_range got (Err why) a short w written = record { place = omega arith; kept = fits; held = less; reads = refl; records = few }

-- once the read is counted, and what came of it is added
module _ (mending stands : Mending) (next : Standing) (counts : next ≡ after_read stands.standing) where
  pub one_turn : (got : Read) (found left output report : List ℕ) (came : Result Turned Break) (written : Bool)
      → MendsRead got mending.standing found left output report came → stands ≡ settled_as written mending came report → Turn mending (record stands { standing = next })
  one_turn got found left output report came written answers settles =
      record {
        got = got;
        found = found;
        left = left;
        output = output;
        report = report;
        came = came;
        written = written;
        answers = answers;
        adds = ap (λ (s : Standing). record stands { standing = s }) counts ∙ ap read_counted settles;
      }

  pub turns : Settled mending stands → (next.goes_on ≡ true → next.reads < most_reads) → Turn mending (record stands { standing = next })
      → Turns mending (record stands { standing = next })
  turns r left turn =
      let s = stays stands.standing next counts in
      record {
        place = omega (arith, s.place, r.place);
        kept = omega (arith, s.kept, r.kept);
        held = omega (arith, s.held, r.held);
        reads = omega (arith, s.reads, r.reads);
        left = left;
        records = omega (arith, s.kept, r.records);
        turn = turn;
      }
