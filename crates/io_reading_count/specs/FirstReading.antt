-- What the first reading makes of a piece of the damaged file, of what a read gives, and in a turn.
use Rattle.std.specs.Prelude.{◌≡◌, true, false, List, ℕ, ◌+◌, ◌≤◌, ◌<◌, take}
use Rattle.io_rest.specs.Rest.{whole_bytes}
use Rattle.io_streams.specs.Reads.{most_reads}
use Rattle.io_streams.specs.declared.Read.{Read}
use Rattle.io_streams.specs.declared.Read.TheVariants.{Bytes, End, Failed}
use Rattle.file_kept.specs.KeptIn.{kept_in}
use Rattle.io_reading.specs.Stands.{ended_as}
use Rattle.io_reading.specs.Passes.{Passes}
use Rattle.io_reading.specs.declared.Standing.{Standing}

-- those of its blocks that are kept are counted
pub record CountsPiece (standing : Standing) (read : ℕ) (found left : List ℕ) (result : Standing) : Type 0 where
  pub passes : Passes standing read found left result
  pub kept : result.kept ≡ standing.kept + kept_in (take (whole_bytes 512 read) found)

-- By what a read gives: more bytes behind those held, which are a piece with them; the end, which is well, and those held are left over; or nothing,
-- since it failed, which is not well.
abbrev pub CountsRead : Read → Standing → List ℕ → List ℕ → Standing → Type 0
CountsRead (Bytes count) standing found left result = CountsPiece standing (standing.held + count) found left result
CountsRead End standing found left result = result ≡ ended_as true standing
CountsRead Failed standing found left result = result ≡ ended_as false standing

-- a turn makes one read more, adds the blocks of a piece at most, holds less than one, and where it goes on a read is left to make
pub record Turns (standing result : Standing) : Type 0 where
  pub place : result.place ≤ standing.place + 120
  pub kept : result.kept ≤ standing.kept + 120
  pub held : result.held < 512
  pub reads : result.reads ≡ standing.reads + 1
  pub left : result.goes_on ≡ true → result.reads < most_reads
