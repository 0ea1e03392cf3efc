-- The layout of the 20 bytes is one: what is written is read back, and what is read gives the bytes back.
use mathlib.Core.Path.{◌≡◌, refl}
use mathlib.Core.List.{List, [], ◌∷◌, ◌++◌}
use Prim.Native.Nat.{ℕ, ◌≤◌}
use native.Mathlib.Omega.{arith}
use lib.ListN.{length, take, drop}
use lib.Seq.{take_at, drop_at, take_all}
use Rattle.cost_bytes.specs.SideBytes.{Fields, fields_of, bytes_of}

pub read_back : (fields : Fields) → length fields.orders ≡ 2 → length fields.indices ≡ 16 → fields_of (bytes_of fields) ≡ fields
unfolding fields_of
read_back fields two sixteen =
    let orders : take 2 (fields.orders ++ fields.indices) ≡ fields.orders = take_at fields.orders fields.indices 2 two in
    let rest : drop 2 (fields.orders ++ fields.indices) ≡ fields.indices = drop_at fields.orders fields.indices 2 two in
    let indices : take 16 fields.indices ≡ fields.indices = take_all 16 fields.indices (omega arith) in
    rw (orders, rest, indices)

-- of the first 20 bytes
pub written_back : (bytes : List ℕ) → 20 ≤ length bytes → bytes_of (fields_of bytes) ≡ take 20 bytes
unfolding fields_of
written_back [] h = absurd (omega arith)
written_back (a ∷ []) h = absurd (omega arith)
written_back (a ∷ b ∷ []) h = absurd (omega arith)
written_back (a ∷ b ∷ c ∷ []) h = absurd (omega arith)
written_back (a ∷ b ∷ c ∷ d ∷ bytes) h = refl
