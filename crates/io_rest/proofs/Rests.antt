-- The whole units are no more than was read, and what is left over is less than a unit.
use Prim.Native.Nat.{ℕ, ◌-◌, ◌≤◌, ◌<◌}
use native.Mathlib.Nat.{div-add-mod', mod-lt}
use native.Mathlib.Omega.{arith}
use Rattle.io_rest.specs.Rest.{whole_bytes}

pub whole_within : (size read : ℕ) → whole_bytes size read ≤ read
whole_within size read = omega (arith, div-add-mod' read size)

pub rest_below : (size read : ℕ) → 0 < size → read - whole_bytes size read < size
rest_below size read some = omega (arith, div-add-mod' read size, mod-lt read some)
