-- What inner contracts and laws say of a filter. No public promise rests on this name.
use Rattle.std.specs.Prelude.{◌≡◌, ◌≤◌, length}
use Rattle.side_quantized.specs.declared.Quantized.{Quantized}

-- a filter within the limits: order at most 8, eight indices, eight coefficients
pub record Within8 (f : Quantized) : Type 0 where
  pub order_at_most_8 : f.order ≤ 8
  pub eight_indices : length f.indices ≡ 8
  pub eight_coefficients : length f.coefficients ≡ 8
