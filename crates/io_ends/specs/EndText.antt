-- How the blocks of a piece end: what the programs say of it, one line of a refusal with its block, and what they do next.
use Rattle.std.specs.Prelude.{Bool, true, false, List, [], ℕ}
use Rattle.check_verdicts.specs.Verdicts.{number_of}
use Rattle.file_narration.specs.Files.{End, whole, refused_at}
use Rattle.text_refusal.specs.RefusalText.{block_refusal_text}
use Rattle.io_ends.specs.declared.Next.{Next}
use Rattle.io_ends.specs.declared.Next.TheVariants.{GoesOn, Stops, Tells}

-- what is said of an end on standard error
abbrev pub end_text : End → List ℕ
end_text whole = []
end_text (refused_at block fault) = block_refusal_text (number_of fault) block

-- by an end, and whether what comes before it is written: where it could not be, nothing goes on, and no refusal is printed behind what does not stand
abbrev pub next_of : End → Bool → Next
next_of end false = Stops
next_of whole true = GoesOn
next_of (refused_at block fault) true = Tells
