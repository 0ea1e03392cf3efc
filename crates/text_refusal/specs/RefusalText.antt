-- docs/RULES.md, "Block files (C-11)", by the programs: the line of text for a block that is refused.
use Rattle.std.specs.Prelude.{List, ◌++◌, ℕ}
use Rattle.check_verdicts.specs.Verdicts.{numbered, refused}
use Rattle.text_put.specs.Text.{ascii, decimal}
use Rattle.text_answers.specs.Wording.{answer_text}

-- a refusal is one line, with its block
abbrev pub block_refusal_text : ℕ → ℕ → List ℕ
block_refusal_text refusal block = answer_text (refused (numbered refusal)) ++ ascii " at block " ++ decimal block ++ ascii "\n"
