-- A number and words, the one after the other.
use Rattle.text_put.proofs.Pieces.{then}
use Rattle.text_report.proofs.put_stray.Goals as goal

pub returns : goal.returns
returns g c = then _ _ _ _ c.put_decimal.ensures c.put.ensures
