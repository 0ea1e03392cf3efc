-- docs/RULES.md, "The bits program": weighting, filter count, two orders, sixteen indices. The one place that says where each stands,
-- for what is read and for what is written.
use Rattle.std.specs.Prelude.{cond, List, ◌∷◌, ◌++◌, ℕ, ltb, length, get_or, Option, Some, None, Result}
use Rattle.law_lists.specs.Places.{part}
use Rattle.check_verdicts.specs.Verdicts.{Verdict, verdict_by}
use Rattle.cost_call.specs.Cost.{cost_of}
use Rattle.check_refusals.specs.Refusals.{says}
use Rattle.check_refusals.specs.declared.Refusal.{Refusal}

pub record Fields : Type 0 where
  pub weighting : ℕ
  pub filters : ℕ
  pub orders : List ℕ
  pub indices : List ℕ

-- the fields as they are read from bytes, and the bytes as they are written
unfoldable pub fields_of : List ℕ → Fields
fields_of bytes = record { weighting = get_or bytes 0 0; filters = get_or bytes 1 0; orders = part 2 4 bytes; indices = part 4 20 bytes }

abbrev pub bytes_of : Fields → List ℕ
bytes_of fields = fields.weighting ∷ fields.filters ∷ fields.orders ++ fields.indices

-- bytes that are fewer than 20, or what the cost call answers of their side data
pub data Line : Type 0 where
  short : Line
  costs : Verdict ℕ → Line

abbrev pub cost_of_fields : Fields → Verdict ℕ
cost_of_fields fields = cost_of fields.weighting fields.filters fields.orders fields.indices

unfoldable pub line_of : List ℕ → Line
line_of bytes = cond (ltb (length bytes) 20) short (costs (cost_of_fields (fields_of bytes)))

abbrev pub bytes_say : Option (Result ℕ Refusal) → Line
bytes_say None = short
bytes_say (Some answer) = costs (verdict_by says answer)
