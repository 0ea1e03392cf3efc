-- docs/RULES.md, "Rescue (C-16)", the report: a line for each entry.
use Rattle.std.specs.Prelude.{List, [], ◌∷◌, ◌++◌, ℕ}
use Rattle.check_verdicts.specs.Verdicts.{number_of}
use Rattle.text_put.specs.Text.{ascii, decimal}
use Rattle.file_rescued.specs.Rescues.{Entry, dropped, moved, stray}

-- a block, by its place in the damaged file
abbrev pub block_text : ℕ → List ℕ
block_text place = ascii "block " ++ decimal place

abbrev pub entry_text : Entry → List ℕ
entry_text (dropped place fault) = block_text place ++ ascii " dropped " ++ decimal (number_of fault) ++ ascii "\n"
entry_text (moved place old new) = block_text place ++ ascii " renumbered " ++ decimal old ++ ascii " to " ++ decimal new ++ ascii "\n"
entry_text (stray count) = decimal count ++ ascii " stray bytes\n"

-- the entries in order
unfoldable pub report_text : List Entry → List ℕ
report_text [] = []
report_text (entry ∷ entries) = entry_text entry ++ report_text entries
