-- Any two results that a contract allows for one input coincide: one law, cited for each public function of every crate. A function's `Post` is
-- its `ensures` as the checker reads it off the source. A result that the contract equates with a definition says itself. An answer that is an
-- enum says the numbers of docs/RULES.md, and these give the answer back. The logic knows a single NaN: of a NaN result the bits stay open.
use mathlib.Core.Path.{◌≡◌, refl, sym, ◌∙◌, ap}
use mathlib.Core.List.{List}
use Prim.Native.Nat.{ℕ}
use contract.Lifetimes.{Lfts}
use denote.Triple.Clauses.{AtExit}
use borrow.Fn.Kind.{ParamKind, ResultKind}
use borrow.Fn.Kinds.{Out, Dens, res_t, ended_of}

-- two results that say the same, where what a result says gives the result back
pub coincide : {A S : Type 0} (says : A → S) (back : S → A) → ((a : A) → back (says a) ≡ a) → {x y : A} {v : S} → says x ≡ v → says y ≡ v → x ≡ y
coincide says back again {x} {y} p q = sym (again x) ∙ ap back (p ∙ sym q) ∙ again y

-- two results of a function that meet its contract for the same arguments
abbrev pub Determined : (n : ℕ) (ps : List (ParamKind n)) (r : ResultKind n) → Out n ps r → Type 0
Determined n ps r Post =
    (κs : Lfts n) (a : Dens κs ps) (x y : (res_t r κs).Denot) (s t : AtExit (ended_of n ps r) κs) → Post κs a x s → Post κs a y t → x ≡ y

-- two such results, and what each leaves behind: `left` reads it off what was lent
abbrev pub DeterminedWith : (n : ℕ) (ps : List (ParamKind n)) (r : ResultKind n) → Out n ps r → (L : Type 0) → ((κs : Lfts n) → AtExit (ended_of n ps r) κs → L) → Type 0
DeterminedWith n ps r Post L left =
    (κs : Lfts n) (a : Dens κs ps) (x y : (res_t r κs).Denot) (s t : AtExit (ended_of n ps r) κs) → Post κs a x s → Post κs a y t
    → (x ≡ y) × (left κs s ≡ left κs t)

-- what is made of two parts, where the parts coincide
pub of_parts : {A B C : Type 0} (f : A → B → C) {x y : A} {u v : B} → x ≡ y → u ≡ v → f x u ≡ f y v
of_parts f {x} {y} {u} {v} p q = ap (λ a. f a u) p ∙ ap (f y) q

-- a result that says itself
pub itself : {A : Type 0} {x y v : A} → x ≡ v → y ≡ v → x ≡ y
itself p q = coincide (λ a. a) (λ a. a) (λ a. refl) p q
