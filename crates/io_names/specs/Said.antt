-- What is said of a file, by its name.
use Rattle.std.specs.Prelude.{List, ◌++◌, ℕ}
use Rattle.text_put.specs.Text.{ascii}

-- the program's name, the file's, and what there is to say
abbrev pub said_text : List ℕ → List ℕ → List ℕ
said_text name what = ascii "tns: " ++ name ++ what
