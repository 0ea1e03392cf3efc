-- What is said of both readings of a damaged file in one line.
use Rattle.std.specs.Prelude.{List, ℕ}
use Rattle.io_reading_mend.specs.declared.Mending.{Mending}
use Rattle.text_summary.specs.SummaryText.{summary_text}

-- the line, by the blocks that are kept, all blocks, the bytes left over and the records of the kept blocks
abbrev pub sum_text : Mending → List ℕ
sum_text found = summary_text found.standing.kept found.standing.place found.standing.held found.records
