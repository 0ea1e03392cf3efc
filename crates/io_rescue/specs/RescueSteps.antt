-- What is made of a piece of a damaged narration: the steps of `file_rescued`, with the report in its words.
use Rattle.std.specs.Prelude.{◌≡◌, List, ℕ, ◌+◌, ◌*◌, ◌≤◌, length}
use Rattle.law_lists.specs.Portions.{portions}
use Rattle.check_verdicts.specs.Verdicts.{unless_refused}
use Rattle.block_rescue.specs.Rescue.{rescue_verdict}
use Rattle.text_put.specs.Text.{after}
use Rattle.file_rescued.specs.Rescues.{entries_by, Stepped, next_by, stepped_from}
use Rattle.text_report.specs.ReportText.{report_text}

-- by what the step says of a portion: what it becomes was put behind the bytes before it, and what is said of it behind the lines before
pub record TakesPortion (place number : ℕ) (portion : List ℕ) (room : ℕ) (out outLeft : List ℕ) (lines : ℕ) (report reportLeft : List ℕ) (result : ℕ) : Type 0 where
  pub bytes : outLeft ≡ unless_refused (rescue_verdict number portion) (after room out) out
  pub said : reportLeft ≡ after lines report (report_text (entries_by place number portion (rescue_verdict number portion)))
  pub next : result ≡ next_by number (rescue_verdict number portion)

-- a piece of 120 blocks at most, with room for what they become and for a line of 83 bytes for each; places that are far from the largest number there
-- is, and a number that a block may have or the one after the last
pub record HasRoom (place number : ℕ) (bytes : List ℕ) (room long : ℕ) : Type 0 where
  pub places : place ≤ 9223372036854775807
  pub numbers : number ≤ 65536
  pub few : length bytes ≤ 61440
  pub blocks : 61440 ≤ room
  pub lines : 9960 ≤ long

-- the steps over the portions of some bytes
abbrev pub steps_of : ℕ → ℕ → List ℕ → Stepped
steps_of place number bytes = stepped_from place number (portions 512 bytes)

-- what comes of them is all that is left of the output, and what is said of them all of the report
pub record RescuesPiece (place number : ℕ) (bytes outLeft reportLeft : List ℕ) (result : ℕ) : Type 0 where
  pub mended : outLeft ≡ (steps_of place number bytes).mended
  pub report : reportLeft ≡ report_text (steps_of place number bytes).report
  pub next : result ≡ (steps_of place number bytes).next
  pub in_range : result ≤ 65536
  -- a block for each number that is taken, and no more bytes
  pub few_bytes : length outLeft + 512 * number ≤ 512 * result
