-- docs/RULES.md, "Rescue (C-16)", one block: what it becomes if it is kept, and what a call on it promises. The parts of a block are those of `Parts`, by their names.
use Rattle.std.specs.Prelude.{◌≡◌, List, ◌++◌, ℕ, ltb, Result}
use Rattle.law_lists.specs.Places.{part}
use Rattle.check_verdicts.specs.Verdicts.{Verdict, verdict_by, accepted, check, unless_refused, on_accepted}
use Rattle.block_numbers.specs.Words.{word_bytes}
use Rattle.block_parts.specs.Parts.{number_in, sum_bytes}
use Rattle.block_check.specs.Told.{block_fault}
use Rattle.block_check.specs.declared.check.BlockRefusal.{BlockRefusal}
use Rattle.block_kept.specs.Kept.{kept_checks}

-- "renumbered": another number before its header, its records and its fill, which stay byte for byte
abbrev pub body_renumbered : ℕ → List ℕ → List ℕ
body_renumbered number block = word_bytes number ++ part 2 508 block

-- "and get fresh sums"
unfoldable pub renumbered : ℕ → List ℕ → List ℕ
renumbered number block = body_renumbered number block ++ sum_bytes (body_renumbered number block)

-- what a block becomes that is to take this number, or why it does not: its first fault, or, 9, that there is no such number
unfoldable pub rescue_verdict : ℕ → List ℕ → Verdict (List ℕ)
rescue_verdict number block = kept_checks block (check 9 (ltb 65535 number) (accepted (renumbered number block)))

-- A call that rescues a block: its answer, and what its buffer holds, which is the block as it becomes. A refused call leaves it as it was found.
pub record RescueDone (number : ℕ) (block found left : List ℕ) (result : Result ℕ BlockRefusal) : Type 0 where
  pub answer : verdict_by block_fault result ≡ on_accepted (λ _. number_in block) (rescue_verdict number block)
  pub bytes : left ≡ unless_refused (rescue_verdict number block) (λ becomes. becomes) found
