-- The text comes behind what was put before it, as much of it as there is room for.
use Rattle.std.proofs.Common.{◌≡◌, ◌∙◌, ap, ◌++◌, List, ℕ, ◌+◌, ◌-◌, length, take, arith, length-take}
use Rattle.std.proofs.lemmas.Slice.{take-put_mid}
use Rattle.text_put.specs.Text.{after}
use Rattle.text_put.proofs.Pieces.{put_there}
use Rattle.text_put.proofs.Text.put.Goals as goal

pub returns : goal.returns
returns g c =
    let t = c.self.inside in
    let text = c.args.text.now in
    let count = c.min-count.result in
    let before = take t.len t.bytes in
    let bytes = c.copy_from_slice.ensures.after in
    let told = c.self.told in
    let len : length before ≡ t.len = omega (arith, length-take t.len t.bytes, c.self.invariant, told) in
    take-put_mid t.len (t.len + count - t.len) t.bytes _ (t.len + count) (omega (arith, ap length bytes, length-take count text)) (omega arith)
    ∙ ap (λ (ys : List ℕ). before ++ ys) bytes
    ∙ put_there g.row.ROOM count before text (omega arith) (omega (arith, c.min-count.ensures))
    ∙ ap (λ (b : List ℕ). after g.row.ROOM b text) c.self.view_is
