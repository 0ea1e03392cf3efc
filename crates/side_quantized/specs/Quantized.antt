-- docs/RULES.md, "Index and coefficient": what becomes of a filter's eight reflection coefficients.
use Rattle.std.specs.Prelude.{List, map, replicate, Float}
use Rattle.law_rounding.specs.Floats.{f0}
use Rattle.index_choice.specs.Indices.{index_of, order_of}
use Rattle.index_coefficients.specs.Coefficients.{coefficient_of}
use Rattle.side_quantized.specs.declared.Quantized.{Quantized}

-- their indices, the coefficients that these stand for, and the order
unfoldable pub quantized_of : List Float → Quantized
quantized_of reflections =
    let indices = map index_of reflections in
    record { order = order_of indices; indices = indices; coefficients = map coefficient_of indices }

-- in place of a filter without a band: order 0, indices of 8, coefficients of 0
unfoldable pub absent : Quantized
absent = record { order = 0; indices = replicate 8 8; coefficients = replicate 8 f0 }
