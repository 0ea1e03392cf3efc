-- What the blocks in some bytes become: the outcome of `file_narration` over them, read or written, by how long a way's portions are and what it says of them.
use Rattle.std.specs.Prelude.{◌≡◌, List, ℕ, ◌+◌, ◌≤◌, length, Result, Ok, Err}
use Rattle.law_lists.specs.Portions.{portions}
use Rattle.check_verdicts.specs.Verdicts.{Verdict}
use Rattle.block_check.specs.Told.{block_fault}
use Rattle.block_check.specs.declared.check.BlockRefusal.{BlockRefusal}
use Rattle.file_narration.specs.Files.{End, whole, refused_at, Outcome, outcome_from}
use Rattle.io_blocks.specs.declared.Done.{Done}

-- the outcome over the blocks of some bytes, the first of this number
abbrev pub blocks_of : ℕ → (ℕ → List ℕ → Verdict (List ℕ)) → ℕ → List ℕ → Outcome
blocks_of size verdict number bytes = outcome_from verdict number (portions size bytes)

abbrev pub end_of : Result (Unit {0}) BlockRefusal → ℕ → End
end_of (Ok done) next = whole
end_of (Err why) next = refused_at next (block_fault why)

-- what is left is what the outcome gives, it ends as the outcome does, and where nothing is refused it goes on behind its blocks
pub record PutsBlocks (size : ℕ) (verdict : ℕ → List ℕ → Verdict (List ℕ)) (number : ℕ) (bytes left : List ℕ) (result : Done) : Type 0 where
  pub given : left ≡ (blocks_of size verdict number bytes).given
  pub end : end_of result.ended result.next ≡ (blocks_of size verdict number bytes).end
  pub on : (blocks_of size verdict number bytes).end ≡ whole → result.next ≡ number + length (portions size bytes)
  pub in_range : result.next ≤ 65536
