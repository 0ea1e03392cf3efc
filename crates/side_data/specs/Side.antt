-- docs/RULES.md, "Cost" and "Index and coefficient": the side data of a frame as lists, and what it costs.
use Rattle.std.specs.Prelude.{List, [], ◌∷◌, ◌++◌, ℕ, replicate, Float}
use Rattle.law_rounding.specs.Floats.{f0}
use Rattle.cost_call.specs.Cost.{counted_bits}
use Rattle.cost_bytes.specs.SideBytes.{Fields, bytes_of}
use Rattle.side_quantized.specs.declared.Quantized.{Quantized}
use Rattle.side_data.specs.declared.SideData.{SideData}

-- two orders, sixteen indices and sixteen coefficients: the first filter's, then the second's
abbrev pub orders_in : SideData → List ℕ
orders_in side = side.first.order ∷ side.second.order ∷ []

abbrev pub indices_in : SideData → List ℕ
indices_in side = side.first.indices ++ side.second.indices

abbrev pub coefficients_in : SideData → List Float
coefficients_in side = side.first.coefficients ++ side.second.coefficients

-- the fields of its 20 bytes
abbrev pub fields_in : SideData → Fields
fields_in side = record { weighting = side.weighting; filters = side.filters; orders = orders_in side; indices = indices_in side }

-- the 20 bytes of the bits program
abbrev pub bytes_in : SideData → List ℕ
bytes_in side = bytes_of (fields_in side)

-- its cost
abbrev pub bits_of : SideData → ℕ
bits_of side = counted_bits side.weighting side.filters (orders_in side) (indices_in side)

-- a refusal gives no other results
abbrev pub no_filter : Quantized
no_filter = record { order = 0; indices = replicate 8 0; coefficients = replicate 8 f0 }

abbrev pub no_side : SideData
no_side = record { weighting = 0; filters = 0; first = no_filter; second = no_filter }
