-- An order that is none of 0 to 7 is 8 or more: what the last arm of a `match` on an order knows.
use mathlib.Core.Path.{◌≡◌}
use Prim.Native.Nat.{ℕ, suc, ◌≤◌, zero-le, min}
use native.Mathlib.Omega.{arith}

-- a number that is n or more and not n is more
pub above : (n order : ℕ) → n ≤ order → (order ≡ n → ⊥) → suc n ≤ order
above n order h k = omega arith

capped : (order : ℕ) → 8 ≤ order → min order 8 ≡ 8
capped order h = omega arith

pub all_eight : (o : ℕ) → (o ≡ 0 → ⊥) → (o ≡ 1 → ⊥) → (o ≡ 2 → ⊥) → (o ≡ 3 → ⊥) → (o ≡ 4 → ⊥) → (o ≡ 5 → ⊥) → (o ≡ 6 → ⊥) → (o ≡ 7 → ⊥) → min o 8 ≡ 8
all_eight o a b c d e f g i =
    capped o (above 7 o (above 6 o (above 5 o (above 4 o (above 3 o (above 2 o (above 1 o (above 0 o zero-le a) b) c) d) e) f) g) i)

-- an order within the limit is itself
pub within_8 : (order : ℕ) → order ≤ 8 → min order 8 ≡ order
within_8 order h = omega arith
