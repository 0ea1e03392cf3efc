-- docs/RULES.md, "The bits program": one line each, in order, numbered on; and what comes of a read, and where the program stands then.
use Rattle.std.specs.Prelude.{◌≡◌, true, false, List, [], ◌∷◌, ◌++◌, ℕ, zero, suc, ◌+◌, ◌*◌, ◌/◌, ◌≤◌, ◌<◌, take, drop}
use Rattle.cost_bytes.specs.SideBytes.{line_of}
use Rattle.io_rest.specs.Rest.{KeepsRest}
use Rattle.io_streams.specs.Reads.{most_reads}
use Rattle.io_streams.specs.declared.Read.{Read}
use Rattle.io_streams.specs.declared.Read.TheVariants as read
use Rattle.io_turns.specs.declared.Standing.{Standing}
use Rattle.text_answers.specs.Wording.{line_text}

-- record k of some bytes, of 20 bytes each
abbrev pub record20 : List ℕ → ℕ → List ℕ
record20 bytes k = take 20 (drop (20 * k) bytes)

-- the lines of the first records, in order, from a frame's number on
unfoldable pub lines_text : ℕ → List ℕ → ℕ → List ℕ
lines_text frame bytes zero = []
lines_text frame bytes (suc k) = lines_text frame bytes k ++ line_text (frame + k) (line_of (record20 bytes k))

-- what is left over where input ends is a record cut short; where nothing is left over, nothing is printed
abbrev pub rest_text : ℕ → List ℕ → List ℕ
rest_text frame [] = []
rest_text frame (byte ∷ rest) = line_text frame (line_of (byte ∷ rest))

-- the lines of the whole records of the first bytes read are put, what is left of those bytes is held, and there is more to read
pub record AnswersPiece (standing : Standing) (read : ℕ) (found left output : List ℕ) (result : Standing) : Type 0 where
  pub lines : output ≡ lines_text standing.number found (read / 20)
  pub next_frame : result.number ≡ standing.number + read / 20
  pub keeps : KeepsRest 20 read found left result.held
  pub reads : result.reads ≡ standing.reads
  pub on : result.goes_on ≡ true

-- the bytes left over are answered, and nothing goes on
pub record AnswersRest (standing : Standing) (bytes output : List ℕ) (result : Standing) : Type 0 where
  pub line : output ≡ rest_text standing.number bytes
  pub same_frame : result.number ≡ standing.number
  pub none : result.held ≡ 0
  pub reads : result.reads ≡ standing.reads
  pub ends : result.goes_on ≡ false

-- by what a read gives: more bytes behind those held; or the end, or a failure, at which those held are left over
abbrev pub AnswersRead : Read → Standing → List ℕ → List ℕ → List ℕ → Standing → Type 0
AnswersRead (read.Bytes count) standing found left output result = AnswersPiece standing (standing.held + count) found left output result
AnswersRead read.End standing found left output result = AnswersRest standing (take standing.held found) output result
AnswersRead read.Failed standing found left output result = AnswersRest standing (take standing.held found) output result

-- a turn makes one read more, adds the records of a piece at most, holds less than one, and where it goes on a read is left to make
pub record Turns (standing result : Standing) : Type 0 where
  pub frame : result.number ≤ standing.number + 800
  pub held : result.held < 20
  pub reads : result.reads ≡ standing.reads + 1
  pub left : result.goes_on ≡ true → result.reads < most_reads
