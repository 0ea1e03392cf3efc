-- A descriptor at which nothing that a program says can end up in a file: none, or one above those that programs write to, 1 to 3.
use Rattle.std.specs.Prelude.{Bool, ◌||◌, ℤ, pos}
use Rattle.std.specs.Int.Signed.{lt_z}

abbrev pub is_apart : ℤ → Bool
is_apart descriptor = lt_z descriptor (pos 0) || lt_z (pos 3) descriptor
