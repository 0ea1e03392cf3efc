-- Where a program stands that takes standard input piece by piece: as it begins, after a write, and after a read.
use Rattle.std.specs.Prelude.{◌≡◌, true, false, cond, ◌+◌}
use Rattle.io_streams.specs.Reads.{is_spent}
use Rattle.io_turns.specs.declared.Standing.{Standing}

-- as a program begins: nothing is read, and there is more
abbrev pub at_start : Standing
at_start = record { number = 0; held = 0; reads = 0; goes_on = true }

-- after a read: one more is made, and where none is left to make nothing goes on
abbrev pub after_read : Standing → Standing
after_read standing =
    record standing {
      reads = standing.reads + 1;
      goes_on = cond (is_spent standing.goes_on (standing.reads + 1)) false standing.goes_on;
    }

-- once what there was to write is written, or could not be: where it goes on there is more to read
pub record Settles (standing result : Standing) : Type 0 where
  pub number : result.number ≡ standing.number
  pub held : result.held ≡ standing.held
  pub reads : result.reads ≡ standing.reads
  pub more : result.goes_on ≡ true → standing.goes_on ≡ true
