-- docs/RULES.md, "The bits program": the line of text for a record.
use Rattle.std.specs.Prelude.{List, ◌++◌, ℕ}
use Rattle.check_verdicts.specs.Verdicts.{numbered, placed, Verdict, accepted, refused}
use Rattle.cost_bytes.specs.SideBytes.{Line, short, costs}
use Rattle.text_put.specs.Text.{ascii, decimal}

-- "bits" even for one; a place behind refusals 6 and 7 alone
abbrev pub answer_text : Verdict ℕ → List ℕ
answer_text (accepted bits) = decimal bits ++ ascii " bits"
answer_text (refused (numbered number)) = ascii "refused " ++ decimal number
answer_text (refused (placed number place found)) = ascii "refused " ++ decimal number ++ ascii " at " ++ decimal place

abbrev pub saying_text : Line → List ℕ
saying_text short = ascii "short"
saying_text (costs verdict) = answer_text verdict

-- a frame's line
abbrev pub line_text : ℕ → Line → List ℕ
line_text frame line = ascii "frame " ++ decimal frame ++ ascii ": " ++ saying_text line ++ ascii "\n"
