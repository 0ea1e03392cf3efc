-- Each place has the index of the reflection coefficient there.
use Rattle.std.proofs.Common.{rules}
use Rattle.std.specs.Float.{nan}
use Rattle.law_lists.proofs.Made.{made_map}
use Rattle.index_choice.specs.Indices.{index_of}
use Rattle.side_quantized.proofs.indices_of.Goals as goal

pub returns : goal.returns
returns c =
    made_map _ _ index_of nan c.args.reflections 8 (search rules) (λ i y q h call. (search rules, search rules)) c.from_fn.result c.from_fn.ensures.items
