-- Laws of an array that the library makes of another's members (`map`), or of the numbers of its places (`from_fn`): each place holds what the closure
-- gives there, if a call leaves the closure as it was.
use mathlib.Core.Path.{◌≡◌, sym, ◌∙◌, ap, subst}
use mathlib.Core.List.{List, map}
use Prim.Native.Nat.{ℕ, zero, suc, ◌+◌, ◌≤◌, ◌<◌}
use native.Mathlib.Decide.{ℕ_discrete}
use native.Mathlib.Omega.{arith}
use denote.Param.Members.{Mut, Called}
use lib.Ieee.{Float, nan}
use lib.ListN.{length, get_or, length-map, get_or-map}
use lib.Seq.{ext_get_or}
use Rattle.std.specs.Array.{MapsFrom, IsMapOf, IsFromFnResultFrom, IsFromFnResult}
use Rattle.law_lists.specs.Places.{tab}
use Rattle.law_lists.proofs.Tab.{is_tab}

-- a list whose members are what h makes of another's
pub is_map : {A B : Type 0} (h : A → B) (d : A) (xs : List A) (ys : List B) → length ys ≡ length xs
    → ((i : ℕ) → i < length xs → get_or ys i (h d) ≡ h (get_or xs i d)) → ys ≡ map h xs
is_map h d xs ys l same =
    ext_get_or (h d) ys (map h xs) (l ∙ sym (length-map xs h)) (λ i k. same i (omega (arith, l)) ∙ sym (get_or-map h xs i d))

-- of another array's members
module _ {F A B : Type 0} (g : Mut F (A × Unit {0}) B) (f : F) (h : A → B) (gives : (x : A) (y : B) (q : F) → Called g f (x, tt) y q → (q ≡ f) × (y ≡ h x)) where
  each_mapped : (xs : List A) (ys : List B) (i n : ℕ) → MapsFrom g f xs ys i n → (k : ℕ) → i ≤ k → k < i + n → (d : A) (e : B) → get_or ys k e ≡ h (get_or xs k d)
  each_mapped xs ys i zero made k low high d e = absurd (omega arith)
  each_mapped xs ys i (suc n) (q, x, y, member, other, call, more) k low high d e = elim (ℕ_discrete k i) [
    | yes here ↦ rw here (other.1 e ∙ (gives x y q call).1 ∙ ap h (sym (member.1 d)))
    | no past ↦ each_mapped xs ys (i + 1) n (subst (λ p. MapsFrom g p xs ys (i + 1) n) (gives x y q call).0 more) k (omega arith) (omega arith) d e
  ]

  pub mapped : (d : A) (xs : List A) (ys : List B) (n : ℕ) → length xs ≡ n → IsMapOf g f xs ys n → ys ≡ map h xs
  mapped d xs ys n l made = is_map h d xs ys (made.long ∙ sym l) (λ i k. each_mapped xs ys 0 n made.each i (omega arith) (omega arith) d (h d))

-- of the numbers of its places
module _ {F B : Type 0} (g : Mut F (ℕ × Unit {0}) B) (f : F) (h : ℕ → B) (n : ℕ)
    (gives : (i : ℕ) (y : B) (q : F) → i < n → Called g f (i, tt) y q → (q ≡ f) × (y ≡ h i))
  where
    each_made : (ys : List B) (i m : ℕ) → i + m ≡ n → IsFromFnResultFrom g f ys i m → (k : ℕ) → i ≤ k → k < n → (e : B) → get_or ys k e ≡ h k
    each_made ys i zero whole made k low high e = absurd (omega arith)
    each_made ys i (suc m) whole (q, y, member, call, more) k low high e =
        let left : i < n = omega arith in
        elim (ℕ_discrete k i) [
          | yes here ↦ rw here (member.1 e ∙ (gives i y q left call).1)
          | no past ↦ each_made ys (i + 1) m (omega arith) (subst (λ p. IsFromFnResultFrom g p ys (i + 1) m) (gives i y q left call).0 more) k (omega arith) high e
        ]

    pub made_at : (ys : List B) → IsFromFnResult g f ys n → (k : ℕ) → k < n → (e : B) → get_or ys k e ≡ h k
    made_at ys made k high e = each_made ys 0 n (omega arith) made.each k (omega arith) high e

-- an array of floats of the numbers of its places
pub made_tab : {F : Type 0} (g : Mut F (ℕ × Unit {0}) Float) (f : F) (h : ℕ → Float) (n : ℕ)
    → ((i : ℕ) (y : Float) (q : F) → i < n → Called g f (i, tt) y q → (q ≡ f) × (y ≡ h i))
    → (ys : List Float) → IsFromFnResult g f ys n → ys ≡ tab h n
made_tab g f h n gives ys made = is_tab h n ys made.long (λ i k. made_at g f h n gives ys made i k nan)

-- an array of what stands at the places of another
pub made_map : {F A B : Type 0} (g : Mut F (ℕ × Unit {0}) B) (f : F) (h : A → B) (d : A) (xs : List A) (n : ℕ) → length xs ≡ n
    → ((i : ℕ) (y : B) (q : F) → i < n → Called g f (i, tt) y q → (q ≡ f) × (y ≡ h (get_or xs i d)))
    → (ys : List B) → IsFromFnResult g f ys n → ys ≡ map h xs
made_map g f h d xs n l gives ys made = is_map h d xs ys (made.long ∙ sym l) (λ i k. made_at g f (λ i. h (get_or xs i d)) n gives ys made i (omega (arith, l)) (h d))
