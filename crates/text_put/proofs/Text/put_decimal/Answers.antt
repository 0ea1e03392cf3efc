-- It puts the digits that `io` finds.
use Rattle.std.proofs.Common.{◌∙◌, ap, List, ℕ, arith}
use Rattle.text_put.specs.Text.{after}
use Rattle.text_put.proofs.Decimals.{decimal_digits}
use Rattle.text_put.proofs.Text.put_decimal.Goals as goal

pub returns : goal.returns
returns g c =
    let found = c.decimal-count in
    c.put.ensures
    ∙ ap (λ (t : List ℕ). after g.row.ROOM c.args.self.now t) (found.ensures.digits ∙ decimal_digits found.result c.args.n (omega arith) found.ensures.len)
