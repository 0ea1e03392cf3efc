-- What the programs make of what a read gives: the whole blocks of a piece of input are put, and the rest waits.
use Rattle.std.specs.Prelude.{◌≡◌, true, false, List, ℕ, ◌+◌, ◌≤◌, ◌<◌, take}
use Rattle.io_streams.specs.Reads.{most_reads}
use Rattle.io_streams.specs.declared.Read.{Read}
use Rattle.io_streams.specs.declared.Read.TheVariants as read
use Rattle.io_rest.specs.Rest.{whole_bytes, KeepsRest}
use Rattle.check_verdicts.specs.Verdicts.{Verdict}
use Rattle.io_blocks.specs.PutBlocks.{PutsBlocks}
use Rattle.io_turns.specs.declared.Standing.{Standing}
use Rattle.io_transfer.specs.declared.Turned.{Turned}

-- the whole blocks of the bytes read are put, from the next number on, what is left of the bytes is held, and there is more to read
pub record TakesPiece (size : ℕ) (verdict : ℕ → List ℕ → Verdict (List ℕ)) (standing : Standing) (read : ℕ) (found left output : List ℕ) (result : Turned) : Type 0 where
  pub puts : PutsBlocks size verdict standing.number (take (whole_bytes size read) found) output result.put
  pub next : result.standing.number ≡ result.put.next
  pub keeps : KeepsRest size read found left result.standing.held
  pub reads : result.standing.reads ≡ standing.reads
  pub on : result.standing.goes_on ≡ true

-- the last bytes are put as the last block, and nothing goes on
pub record TakesLast (size : ℕ) (verdict : ℕ → List ℕ → Verdict (List ℕ)) (standing : Standing) (bytes output : List ℕ) (result : Turned) : Type 0 where
  pub puts : PutsBlocks size verdict standing.number bytes output result.put
  pub next : result.standing.number ≡ result.put.next
  pub none : result.standing.held ≡ 0
  pub reads : result.standing.reads ≡ standing.reads
  pub ends : result.standing.goes_on ≡ false

-- By what a read gives: more bytes behind those held; the end, at which those held are the last block, short or not; or nothing, since it failed, and
-- then what is known to be whole of them is.
abbrev pub AnswersRead : ℕ → (ℕ → List ℕ → Verdict (List ℕ)) → (ℕ → ℕ) → Read → Standing → List ℕ → List ℕ → List ℕ → Turned → Type 0
AnswersRead size verdict known (read.Bytes count) standing found left output result = TakesPiece size verdict standing (standing.held + count) found left output result
AnswersRead size verdict known read.End standing found left output result = TakesLast size verdict standing (take standing.held found) output result
AnswersRead size verdict known read.Failed standing found left output result = TakesLast size verdict standing (take (known standing.held) found) output result

-- a turn makes one read more, has a number for the next block or the one after the last, holds less than a block, and where it goes on a read is left
-- to make
pub record Turns (standing result : Standing) : Type 0 where
  pub number : result.number ≤ 65536
  pub held : result.held < 512
  pub reads : result.reads ≡ standing.reads + 1
  pub left : result.goes_on ≡ true → result.reads < most_reads
