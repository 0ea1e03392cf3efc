-- How many blocks of some bytes are kept, as many as `count_kept` counts.
use Rattle.std.specs.Prelude.{List, ℕ, length}
use Rattle.law_lists.specs.Portions.{portions}
use Rattle.file_rescued.specs.Rescues.{kept_of}

abbrev pub kept_in : List ℕ → ℕ
kept_in bytes = length (kept_of (portions 512 bytes))
