-- What is quantized is within the limits: an order of at most 8, eight indices, eight coefficients.
use mathlib.Core.Path.{◌≡◌, refl, ◌∙◌}
use mathlib.Core.List.{List, map}
use native.Mathlib.Omega.{arith}
use lib.Ieee.{Float}
use lib.ListN.{length, length-map}
use Rattle.index_choice.specs.Indices.{index_of}
use Rattle.index_coefficients.specs.Coefficients.{coefficient_of}
use Rattle.index_choice.proofs.Indices.{order_at_most}
use Rattle.side_quantized.specs.Quantized.{quantized_of, absent}
use Rattle.side_quantized.specs.Within.{Within8}

pub quantized_within : (r : List Float) → length r ≡ 8 → Within8 (quantized_of r)
unfolding quantized_of
quantized_within r l =
    record {
      order_at_most_8 = omega (arith, order_at_most (map index_of r), length-map r index_of);
      eight_indices = length-map r index_of ∙ l;
      eight_coefficients = length-map (map index_of r) coefficient_of ∙ length-map r index_of ∙ l;
    }

pub absent_within : Within8 absent
unfolding absent
absent_within = record { order_at_most_8 = omega arith; eight_indices = refl; eight_coefficients = refl }
