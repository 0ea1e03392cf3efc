-- What a look at a name finds.
use Rattle.std.specs.Prelude.{Bool, true, false, Result, Ok, Err}
use Rattle.std.specs.declared.io.Error.{Error}
use Rattle.std.specs.declared.io.ErrorKind.{ErrorKind}
use Rattle.std.specs.declared.io.ErrorKind.TheVariants.{NotFound}
use Rattle.std.specs.IoError.{error_kind}

-- by why the system did not answer: that nothing is there, or anything else
abbrev pub look_by : ErrorKind → Error → Result Bool Error
look_by NotFound reason = Ok true
look_by _ reason = Err reason

-- By what the system answered: a name that it knows is not free, be it a link's or another's. A name is free only where it said that nothing is there.
abbrev pub look_of : {M : Type 0} → Result M Error → Result Bool Error
look_of (Ok there) = Ok false
look_of (Err reason) = look_by (error_kind reason) reason
