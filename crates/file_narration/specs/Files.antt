-- docs/RULES.md, "Block files (C-11)", a file: portions of bytes taken one after the other as blocks numbered from 0, up to the first that is refused. Reading a file takes
-- its portions of 512 bytes, writing records their portions of 480.
use Rattle.std.specs.Prelude.{List, [], ◌∷◌, ◌++◌, ℕ, suc}
use Rattle.law_lists.specs.Portions.{portions}
use Rattle.check_verdicts.specs.Verdicts.{Fault, Verdict, accepted, refused}
use Rattle.block_parts.specs.Parts.{block_bytes}
use Rattle.block_check.specs.Blocks.{read_verdict, write_verdict}

-- how it ends: nothing is refused, or a block is, by its number
pub data End : Type 0 where
  whole : End
  refused_at : ℕ → Fault → End

-- the bytes that the accepted blocks give, and the end
pub record Outcome : Type 0 where
  pub given : List ℕ
  pub end : End

abbrev pub nothing : Outcome
nothing = record { given = []; end = whole }

abbrev pub stopped_at : ℕ → Fault → Outcome
stopped_at number fault = record { given = []; end = refused_at number fault }

-- some bytes, and then what an outcome gives
abbrev pub before : List ℕ → Outcome → Outcome
before bytes outcome = record { given = bytes ++ outcome.given; end = outcome.end }

-- an accepted block leaves the rest to those after it, and a refused one gives nothing
abbrev pub go_on : ℕ → Verdict (List ℕ) → Outcome → Outcome
go_on number (accepted bytes) rest = before bytes rest
go_on number (refused fault) rest = stopped_at number fault

-- block by block, the first of this number
unfoldable pub outcome_from : (ℕ → List ℕ → Verdict (List ℕ)) → ℕ → List (List ℕ) → Outcome
outcome_from verdict number [] = nothing
outcome_from verdict number (portion ∷ portions) = go_on number (verdict number portion) (outcome_from verdict (suc number) portions)

-- a file's records, and the first refusal with its block
abbrev pub reading : List ℕ → Outcome
reading file = outcome_from read_verdict 0 (portions 512 file)

-- the file of some records, and the first refusal with its block
abbrev pub writing : List ℕ → Outcome
writing records = outcome_from write_verdict 0 (portions 480 records)

-- the file whose blocks hold these records, a list of them for each block, the first of this number
unfoldable pub blocks_from : ℕ → List (List ℕ) → List ℕ
blocks_from number [] = []
blocks_from number (records ∷ rest) = block_bytes number records ++ blocks_from (suc number) rest
