-- The block, its old number and its new one, each a word and a number, one after the other.
use Rattle.std.proofs.Common.{◌++◌}
use Rattle.text_put.specs.Text.{ascii, decimal}
use Rattle.text_put.proofs.Pieces.{then, then_numbered}
use Rattle.text_report.specs.ReportText.{block_text}
use Rattle.text_report.proofs.put_moved.Goals as goal

pub returns : goal.returns
returns g c =
    let block = block_text c.args.place in
    let old = decimal c.args.old in
    let new = decimal c.args.new in
    let from = block ++ ascii " renumbered " ++ old in
    let first = then_numbered _ _ block (ascii " renumbered ") old c.put_numbered.ensures c.put_numbered-2.ensures in
    let second = then_numbered _ _ from (ascii " to ") new first c.put_numbered-3.ensures in
    then _ _ (from ++ ascii " to " ++ new) _ second c.put.ensures
