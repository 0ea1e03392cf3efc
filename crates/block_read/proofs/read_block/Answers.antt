-- The records that the checks accept are laid into the buffer, if there are any.
use mathlib.Core.Path.{◌≡◌, refl, sym, ◌∙◌, ap}
use Prim.Native.Nat.{◌+◌, ◌-◌, ◌*◌}
use native.Mathlib.Omega.{arith}
use lib.ListN.{drop, length-take}
use Rattle.check_verdicts.specs.Verdicts.{accepted, on_accepted}
use Rattle.block_parts.specs.Parts.{count_of}
use Rattle.block_check.proofs.Verdicts.{Given, given_some, given_none}
use Rattle.block_buffer.proofs.Buffers.{done_by}
use Rattle.block_read.proofs.read_block.Goals as goal

-- what follows from a count that is not 0
some : (c : goal.Then-count-gt0) → Given c.args.number c.args.bytes.now c.in_ok-count.count
some c = given_some c.args.number c.args.bytes.now c.in_ok-count.count c.in_ok-count.ensures c.if-count-gt0.true

pub overflow_mul-stop : goal.overflow_mul-stop
overflow_mul-stop c = omega (arith, (some c).few)

pub overflow_add-stop : goal.overflow_add-stop
overflow_add-stop c = omega (arith, (some c).few)

pub slice_bounds-lay-end : goal.slice_bounds-lay-end
slice_bounds-lay-end c = omega (arith, (some c).few, (some c).long)

pub lay-requires : goal.lay-requires
lay-requires c =
    let given = given_some c.args.number c.args.bytes.now c.in_ok-count.count c.in_ok-count.ensures c.if-count-gt0.true in
    omega (arith, length-take (8 + 24 * c.in_ok-count.count - 8) (drop 8 c.args.bytes.now), given.few)

pub returns-then-count-gt0 : goal.returns-then-count-gt0
returns-then-count-gt0 c =
    let given = given_some c.args.number c.args.bytes.now c.in_ok-count.count c.in_ok-count.ensures c.if-count-gt0.true in
    done_by _ given.verdict (c.in_ok-count.ensures ∙ ap (on_accepted count_of) given.verdict) c.lay.ensures

pub returns-else-count-gt0 : goal.returns-else-count-gt0
returns-else-count-gt0 c =
    let none : c.in_ok-count.count ≡ 0 = omega arith in
    let nothing = given_none c.args.number c.args.bytes.now (ap accepted (sym none) ∙ c.in_ok-count.ensures) in
    done_by _ nothing (ap accepted none) refl
