-- What a read into a piece gives, and how many reads a program makes at most.
use Rattle.std.specs.Prelude.{◌≡◌, Bool, ◌&&◌, List, ℕ, zero, suc, Result, Ok, Err, ◌+◌, ◌^◌, ◌≤◌, ◌<◌, leb, length, take}
use Rattle.io_streams.specs.declared.Read.{Read}
use Rattle.io_streams.specs.declared.Read.TheVariants.{Bytes, End, Failed}

-- by what the system answered: how many bytes it gave, none at the end alone, or that it failed
abbrev pub read_of : {E : Type 0} → Result ℕ E → Read
read_of (Err reason) = Failed
read_of (Ok zero) = End
read_of (Ok (suc more)) = Bytes (suc more)

-- So many reads that no run makes them all: at one in each microsecond they take 285 years.
abbrev pub most_reads : ℕ
most_reads = 2 ^ 53

-- whether there is more to read after so many reads and none is left to make
abbrev pub is_spent : Bool → ℕ → Bool
is_spent more reads = more && leb most_reads reads

-- bytes that were read are one at least, and lie after those held, within a piece that has room for so many
abbrev pub Within : ℕ → ℕ → Read → Type 0
Within held room (Bytes count) = (0 < count) × (held + count ≤ room)
Within held room End = Unit {0}
Within held room Failed = Unit {0}

-- a read after the bytes held, which stay as they are
pub record ReadAfter (held : ℕ) (found left : List ℕ) (result : Read) : Type 0 where
  pub within : Within held (length left) result
  pub stays : take held left ≡ take held found
