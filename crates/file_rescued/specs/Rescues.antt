-- docs/RULES.md, "Rescue (C-16)", a file: which of its blocks are kept, the file that they make, and the report. A file is cut into portions of 512 bytes: whole blocks,
-- and behind them what is left over.
use Rattle.std.specs.Prelude.{cond, List, [], ◌∷◌, ◌++◌, ℕ, suc, eqb, ltb, length}
use Rattle.law_lists.specs.Portions.{portions}
use Rattle.check_verdicts.specs.Verdicts.{Fault, Verdict, accepted, refused, check, unless_refused}
use Rattle.block_parts.specs.Parts.{number_in}
use Rattle.block_kept.specs.Kept.{kept_verdict}
use Rattle.block_rescue.specs.Rescue.{renumbered, rescue_verdict}

-- ---- the blocks

-- those that are kept, in their old order
unfoldable pub kept_of : List (List ℕ) → List (List ℕ)
kept_of [] = []
kept_of (portion ∷ rest) = unless_refused (kept_verdict portion) (λ records. portion ∷ kept_of rest) (kept_of rest)

-- renumbered on from this number, one behind the other
unfoldable pub numbered_from : ℕ → List (List ℕ) → List ℕ
numbered_from number [] = []
numbered_from number (block ∷ blocks) = renumbered number block ++ numbered_from (suc number) blocks

-- ---- the report

-- a block that is dropped, by its place in the file, and its first fault; one that is renumbered, by its place, its old number and its new one; the
-- number of stray bytes at the end
pub data Entry : Type 0 where
  dropped : ℕ → Fault → Entry
  moved : ℕ → ℕ → ℕ → Entry
  stray : ℕ → Entry

-- of a kept block at this place, its old number and its new one, if they differ
abbrev pub kept_entries : ℕ → ℕ → ℕ → List Entry
kept_entries place old new = cond (eqb old new) [] (moved place old new ∷ [])

-- of a portion that is not kept: its fault, or, where it is no whole block, which the checks say by 9, how many bytes it is
abbrev pub left_entries : ℕ → ℕ → Fault → List Entry
left_entries place size fault = cond (ltb size 512) (stray size) (dropped place fault) ∷ []

-- what is said of a portion at this place, which would take this number
abbrev pub entries_by : ℕ → ℕ → List ℕ → Verdict (List ℕ) → List Entry
entries_by place number portion (accepted kept) = kept_entries place (number_in portion) number
entries_by place number portion (refused fault) = left_entries place (length portion) fault

abbrev pub entries_of : ℕ → ℕ → List ℕ → List Entry
entries_of place number portion = entries_by place number portion (kept_verdict portion)

-- the number that the next kept block takes
abbrev pub number_after : ℕ → List ℕ → ℕ
number_after number portion = unless_refused (kept_verdict portion) (λ records. suc number) number

-- in the file's order, from this place on; the first block that is kept takes this number
unfoldable pub report_from : ℕ → ℕ → List (List ℕ) → List Entry
report_from place number [] = []
report_from place number (portion ∷ rest) = entries_of place number portion ++ report_from (suc place) (number_after number portion) rest

-- ---- step by step

-- what comes of some blocks, and the number that comes next
pub record Stepped : Type 0 where
  pub mended : List ℕ
  pub report : List Entry
  pub next : ℕ

-- the number that comes after a block, by what the step says of it
abbrev pub next_by : ℕ → Verdict (List ℕ) → ℕ
next_by number verdict = unless_refused verdict (λ becomes. suc number) number

-- a block, by what the step says of it, and then what comes of those after it
abbrev pub step_then : ℕ → ℕ → List ℕ → Verdict (List ℕ) → Stepped → Stepped
step_then place number portion verdict rest =
    record {
      mended = unless_refused verdict (λ becomes. becomes) [] ++ rest.mended;
      report = entries_by place number portion verdict ++ rest.report;
      next = rest.next;
    }

-- one after the other, each by the step; as long as there are numbers for those that are kept, that is what is said above (`steps-make`)
unfoldable pub stepped_from : ℕ → ℕ → List (List ℕ) → Stepped
stepped_from place number [] = record { mended = []; report = []; next = number }
stepped_from place number (portion ∷ rest) =
    step_then place number portion (rescue_verdict number portion) (stepped_from (suc place) (next_by number (rescue_verdict number portion)) rest)

-- ---- the call

pub record Rescued : Type 0 where
  pub mended : List ℕ
  pub report : List Entry

-- places and numbers are counted from 0
abbrev pub rescued : List ℕ → Rescued
rescued file = record { mended = numbered_from 0 (kept_of (portions 512 file)); report = report_from 0 0 (portions 512 file) }

-- refused with 9 if there are more kept blocks than numbers
unfoldable pub rescue_of : List ℕ → Verdict Rescued
rescue_of file = check 9 (ltb 65536 (length (kept_of (portions 512 file)))) (accepted (rescued file))
