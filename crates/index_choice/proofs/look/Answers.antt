-- What the look decides is `looked` of the threshold at its place.
use Rattle.std.proofs.Common.{Bool, cond, ◌∙◌, ap}
use Rattle.std.specs.Prelude.{Float}
use Rattle.std.specs.Float.Ieee.{le}
use Rattle.index_choice.proofs.Rising.{looked}
use Rattle.index_choice.proofs.look.Goals as goal

pub returns : goal.returns
returns c =
    let same = ap (λ (t : Float). le t c.args.x) c.threshold.ensures ∙ looked c.args.x c.args.place c.requires in
    c.step_if.ensures ∙ ap (λ (b : Bool). cond b c.args.step 0) same
