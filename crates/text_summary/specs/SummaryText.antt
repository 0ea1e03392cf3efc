-- docs/RULES.md, "Rescue (C-16)": the line that says how much was kept, where something was dropped.
use Rattle.std.specs.Prelude.{cond, ◌&&◌, List, [], ◌++◌, ℕ, eqb}
use Rattle.text_put.specs.Text.{ascii, decimal}

abbrev pub kept_text : ℕ → ℕ → ℕ → List ℕ
kept_text kept blocks records = ascii "kept " ++ decimal kept ++ ascii " of " ++ decimal blocks ++ ascii " blocks, " ++ decimal records ++ ascii " records\n"

-- nothing is said where every block is kept and no bytes are left over
abbrev pub summary_text : ℕ → ℕ → ℕ → ℕ → List ℕ
summary_text kept blocks stray records = cond (eqb kept blocks && eqb stray 0) [] (kept_text kept blocks records)
