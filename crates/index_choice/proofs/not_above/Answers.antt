-- Three looks leave one number for the count of the first seven thresholds, and the fourth tells whether the eighth is counted too.
use Rattle.std.proofs.Common.{◌+◌, arith}
use Rattle.index_choice.specs.Indices.{not_above, thresholds}
use Rattle.index_choice.proofs.Indices.{at_most_all}
use Rattle.index_choice.proofs.Rising.{Left, at_first, halved, counted}
use Rattle.index_choice.proofs.not_above.Goals as goal

pub returns : goal.returns
returns c =
    let n = not_above c.args.x thresholds in
    let first = c.look-by_fours.result in
    let second = first + c.look.result in
    let third = second + c.look-2.result in
    let after_first : Left n first 4 = halved n 0 first 4 3 (at_first n) (omega arith) (omega (arith, c.look-by_fours.ensures)) in
    let after_second : Left n second 2 = halved n first second 2 (first + 1) after_first (omega arith) (omega (arith, c.look.ensures)) in
    let after_third : Left n third 1 = halved n second third 1 second after_second (omega arith) (omega (arith, c.look-2.ensures)) in
    counted n third (third + c.look-3.result) (at_most_all c.args.x thresholds) after_third (omega (arith, c.look-3.ensures))
