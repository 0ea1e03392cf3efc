-- What the second reading makes of a piece of the damaged file, of what is left over at its end, of what a read gives, and in a turn; and what it adds up.
use Rattle.std.specs.Prelude.{◌≡◌, Bool, true, false, ◌||◌, List, [], ◌∷◌, ℕ, ◌+◌, ◌*◌, ◌≤◌, ◌<◌, leb, ltb, length, take, Result, Ok, Err}
use Rattle.file_kept.specs.KeptIn.{kept_in}
use Rattle.file_kept.specs.RecordCount.{CountsRecords}
use Rattle.io_rest.specs.Rest.{whole_bytes}
use Rattle.io_streams.specs.Reads.{most_reads}
use Rattle.io_streams.specs.declared.Read.{Read}
use Rattle.io_streams.specs.declared.Read.TheVariants.{Bytes, End, Failed}
use Rattle.io_rescue.specs.RescueSteps.{RescuesPiece}
use Rattle.io_reading.specs.Stands as stands
use Rattle.io_reading.specs.Stands.{ended_as, after_write, after_read}
use Rattle.io_reading.specs.Passes.{Passes}
use Rattle.io_reading.specs.declared.Standing.{Standing}
use Rattle.io_reading_mend.specs.declared.Mending.{Mending}
use Rattle.io_reading_mend.specs.declared.Turned.{Turned}
use Rattle.io_reading_mend.specs.declared.Break.{Break}
use Rattle.io_reading_mend.specs.declared.Break.TheVariants as broken
use Rattle.io_reading_mend.specs.declared.Break.TheVariants.{Changed}

-- the whole blocks among the bytes read
abbrev pub whole_blocks : ℕ → List ℕ → List ℕ
whole_blocks read found = take (whole_bytes 512 read) found

-- whether there are numbers for the blocks to keep of a piece
abbrev pub has_numbers : ℕ → List ℕ → Bool
has_numbers kept blocks = leb (kept + kept_in blocks) 65536

-- They are rescued, step by step: what that makes is to be written, and what it says is to be said.
pub record MendsPiece (standing : Standing) (read : ℕ) (found left output report : List ℕ) (result : Turned) : Type 0 where
  pub passes : Passes standing read found left result.standing
  pub rescues : RescuesPiece standing.place standing.kept (whole_blocks read found) output report result.standing.kept
  pub records : CountsRecords output result.records

-- the reading ends, well, and what is left over must be reported
pub record TellsRest (standing : Standing) (found output report : List ℕ) (result : Turned) : Type 0 where
  pub ends : result.standing ≡ ended_as true standing
  pub next : ℕ
  pub rescues : RescuesPiece standing.place standing.kept (take standing.held found) output report next
  pub no_records : result.records ≡ 0

-- a piece, by whether there are numbers for its blocks: the first reading has seen to it, unless the file is another by now
abbrev pub TakesPiece : Bool → Standing → ℕ → List ℕ → List ℕ → List ℕ → List ℕ → Result Turned Break → Type 0
TakesPiece true standing read found left output report (Ok turned) = MendsPiece standing read found left output report turned
TakesPiece true standing read found left output report (Err why) = ⊥
TakesPiece false standing read found left output report result = result ≡ Err Changed

-- at the end those held are left over
abbrev pub TakesRest : Standing → List ℕ → List ℕ → List ℕ → Result Turned Break → Type 0
TakesRest standing found output report (Ok turned) = TellsRest standing found output report turned
TakesRest standing found output report (Err why) = ⊥

-- By what a read gives: more bytes behind those held, which are a piece with them; the end, at which those held are left over; or nothing, since it
-- failed.
abbrev pub MendsRead : Read → Standing → List ℕ → List ℕ → List ℕ → List ℕ → Result Turned Break → Type 0
MendsRead (Bytes count) standing found left output report result =
    TakesPiece (has_numbers standing.kept (whole_blocks (standing.held + count) found)) standing (standing.held + count) found left output report result
MendsRead End standing found left output report result = TakesRest standing found output report result
MendsRead Failed standing found left output report result = result ≡ Err broken.Failed

-- as it begins: no records so far, and no line in the report
abbrev pub at_start : Mending
at_start = record { standing = stands.at_start; records = 0; is_reported = false }

-- with what has come of a read: where the reading stands by whether it was written, its records, and whether a line is said of it
abbrev pub tallied : Bool → Mending → Turned → List ℕ → Mending
tallied written mending turned report =
    record {
      standing = after_write written turned.standing;
      records = mending.records + turned.records;
      is_reported = mending.is_reported || ltb 0 (length report);
    }

-- or as the reading breaks off: it ends, not well, and nothing of the file is written, said or counted
abbrev pub broken_off : Mending → Mending
broken_off mending = record mending { standing = ended_as false mending.standing }

abbrev pub settled_as : Bool → Mending → Result Turned Break → List ℕ → Mending
settled_as written mending (Ok turned) report = tallied written mending turned report
settled_as written mending (Err why) report = broken_off mending

-- once the read is counted
abbrev pub read_counted : Mending → Mending
read_counted mending = record mending { standing = after_read mending.standing }

-- what comes of one read is added, by what the read gave and whether all that there was to write was written
pub record Turn (mending result : Mending) : Type 0 where
  pub got : Read
  pub found : List ℕ
  pub left : List ℕ
  pub output : List ℕ
  pub report : List ℕ
  pub came : Result Turned Break
  pub written : Bool
  pub answers : MendsRead got mending.standing found left output report came
  pub adds : result ≡ read_counted (settled_as written mending came report)

-- the start, or a turn after an earlier one; the last is named first
abbrev pub Came : List Mending → Mending → Type 0
Came [] result = result ≡ at_start
Came (before ∷ earlier) result = Turn before result × Came earlier before

-- reached from the start by turns, so that all that was found is the sum of what came of the reads
pub record Reached (result : Mending) : Type 0 where
  pub earlier : List Mending
  pub came : Came earlier result

-- a turn makes one read more, adds the blocks of a piece at most, has a number for every block that is kept, holds less than a block, and where it goes
-- on a read is left to make; and no kept block has more than 255 records
pub record Turns (mending result : Mending) : Type 0 where
  pub place : result.standing.place ≤ mending.standing.place + 120
  pub kept : result.standing.kept ≤ 65536
  pub held : result.standing.held < 512
  pub reads : result.standing.reads ≡ mending.standing.reads + 1
  pub left : result.standing.goes_on ≡ true → result.standing.reads < most_reads
  pub records : result.records ≤ 255 * result.standing.kept
  pub turn : Turn mending result
