-- How a file is named where something is said of it.
use Rattle.std.specs.Prelude.{Bool, true, false, List, [], ◌∷◌, ◌++◌, ℕ}
use Rattle.text_put.specs.Text.{ascii}

-- back to the line's start, blanks over what stands there, and back again
abbrev pub erasing : List ℕ
erasing = (13 ∷ ascii "           ") ++ (13 ∷ [])

-- a file's name after the program's, in the place of what stands on the terminal
abbrev pub name_text : Bool → List ℕ → List ℕ
name_text true name = erasing ++ ascii "tns: " ++ name
name_text false name = ascii "tns: " ++ name
