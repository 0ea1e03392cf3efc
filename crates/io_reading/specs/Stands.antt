-- Where a reading of a damaged file stands as it begins, after a read and a write, and as it ends; and whether two readings found the same.
use Rattle.std.specs.Prelude.{Bool, true, false, cond, ◌&&◌, ◌+◌, eqb}
use Rattle.io_streams.specs.Reads.{is_spent}
use Rattle.io_reading.specs.declared.Standing.{Standing}

-- as it begins: nothing is read, and there is more
abbrev pub at_start : Standing
at_start = record { place = 0; kept = 0; held = 0; reads = 0; goes_on = true; is_well = false }

-- as it ends here, well, that is at the file's end and with nothing failed, or not: what was found stays, and nothing more is read
abbrev pub ended_as : Bool → Standing → Standing
ended_as well standing = record standing { goes_on = false; is_well = well }

-- after a write: where it stood, or if it could not be written, the end, which is not well
abbrev pub after_write : Bool → Standing → Standing
after_write written standing = cond written standing (ended_as false standing)

-- with one read more made
abbrev pub one_read : Standing → Standing
one_read standing = record standing { reads = standing.reads + 1 }

-- after a read: where none is left to make, a reading that goes on has not come to the file's end; it ends, and is not well
abbrev pub after_read : Standing → Standing
after_read standing = cond (is_spent standing.goes_on (standing.reads + 1)) (ended_as false (one_read standing)) (one_read standing)

-- as many blocks, as many that are kept, and as many bytes left over
abbrev pub same_totals : Standing → Standing → Bool
same_totals first second = eqb first.place second.place && eqb first.kept second.kept && eqb first.held second.held
