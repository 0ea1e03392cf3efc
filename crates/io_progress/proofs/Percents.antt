-- Where no more blocks are done than two readings of a file of that size have, no more than 100 percent is.
use Prim.Native.Nat.{ℕ, ◌+◌, ◌*◌, ◌/◌, ◌≤◌, ◌<◌}
use native.Mathlib.Nat.{div-lt_iff_lt-mul}
use native.Mathlib.Omega.{arith}
use Rattle.io_progress.specs.Percents.{percent_of}

pub at_most_all : (size done : ℕ) → done ≤ 2 * (size / 512) → percent_of size done ≤ 100
at_most_all size done few =
    let some : 0 < size / 25600 + 1 = omega arith in
    let less : done < 101 * (size / 25600 + 1) = omega arith in
    omega (arith, (div-lt_iff_lt-mul some).1 less)
