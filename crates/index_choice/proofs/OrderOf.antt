-- The order by the last place whose index is not 8: one more than that place, and 0 if there is none.
use Rattle.std.proofs.Common.{◌≡◌, ℕ, zero, suc, ◌+◌, ◌<◌, List, [], ◌∷◌, length, get_or, Bool, cond, ap, ◌∙◌, eq-eqb, arith, refl}
use borrow.Author.Tests.{ne_eqb}
use Rattle.index_choice.specs.Indices.{order_from, order_of}

only_8 : (is : List ℕ) (passed found : ℕ) → ((k : ℕ) → k < length is → get_or is k 0 ≡ 8) → order_from passed found is ≡ found
unfolding order_from
only_8 [] passed found h = refl
only_8 (i ∷ is) passed found h =
    ap (λ (b : Bool). order_from (suc passed) (cond b found (suc passed)) is) (eq-eqb _ _ (h 0 (omega arith)))
    ∙ only_8 is (suc passed) found (λ k l. h (suc k) (omega arith))

last_other : (is : List ℕ) (passed found place : ℕ) → place < length is → (get_or is place 0 ≡ 8 → ⊥) → ((k : ℕ) → place < k → k < length is → get_or is k 0 ≡ 8)
    → order_from passed found is ≡ passed + place + 1
unfolding order_from
last_other [] passed found place l d h = absurd (omega arith)
last_other (i ∷ is) passed found zero l d h =
    ap (λ (b : Bool). order_from (suc passed) (cond b found (suc passed)) is) (ne_eqb _ _ d)
    ∙ only_8 is (suc passed) (suc passed) (λ k l. h (suc k) (omega arith) (omega arith)) ∙ omega arith
last_other (i ∷ is) passed found (suc place) l d h =
    last_other is (suc passed) (cond (Rattle.std.proofs.Common.eqb i 8) found (suc passed)) place (omega arith) d (λ k b m. h (suc k) (omega arith) (omega arith))
    ∙ omega arith

pub order_none : (is : List ℕ) → ((k : ℕ) → k < length is → get_or is k 0 ≡ 8) → order_of is ≡ 0
unfolding order_of
order_none is h = only_8 is 0 0 h

pub order_last : (is : List ℕ) (place : ℕ) → place < length is → (get_or is place 0 ≡ 8 → ⊥) → ((k : ℕ) → place < k → k < length is → get_or is k 0 ≡ 8)
    → order_of is ≡ place + 1
unfolding order_of
order_last is place l d h = last_other is 0 0 place l d h ∙ omega arith
