-- Going on from here through the bits that are left gives the power.
use Rattle.std.proofs.Common.{◌≡◌, ◌-◌}
use Rattle.shape_reflections.specs.Reflections.{power, power_from}
use Rattle.shape_reflections.proofs.power_of.Given as goal

abbrev pub invariant-loop : goal.invariant-loop
invariant-loop l = power l.x l.e ≡ power_from (4 - l.counter) l.product l.square l.rest
