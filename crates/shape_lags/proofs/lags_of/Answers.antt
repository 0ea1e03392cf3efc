-- Each place is the definition's.
use Rattle.std.proofs.Common.{rules}
use Rattle.std.specs.Float.Ieee.{eq}
use Rattle.law_rounding.specs.Floats.{◌⊗◌, f0}
use Rattle.law_lists.specs.Places.{at}
use Rattle.law_lists.proofs.Made.{made_tab}
use Rattle.shape_lags.specs.LagCells.{lag_cell}
use Rattle.shape_lags.proofs.lags_of.Goals as goal

pub returns : goal.returns
returns c =
    let g = c.args in
    made_tab _ _ (lag_cell (eq (at g.a 0 ⊗ at g.b 0 ⊗ at g.c 0) f0) g.a g.b g.c) 9 (λ k y q h call. (search rules, search rules))
    c.from_fn.result c.from_fn.ensures.items
