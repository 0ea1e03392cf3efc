-- Each place is the definition's.
use Rattle.std.proofs.Common.{rules}
use Rattle.law_rounding.specs.Floats.{◌⊗◌}
use Rattle.law_lists.specs.Places.{at}
use Rattle.law_lists.proofs.Made.{made_tab}
use Rattle.shape_reflections.specs.Reflections.{power, damped}
use Rattle.shape_reflections.proofs.damped_row.Goals as goal

pub returns : goal.returns
unfolding damped
returns c =
    made_tab _ _ (λ k. at c.args.row k ⊗ power c.args.damping k) 9 (λ k y q h call. (search rules, search rules)) c.from_fn.result c.from_fn.ensures.items
