-- Laws of the library's `chunks`: it gives the portions of a list, one after the other.
use mathlib.Core.Path.{◌≡◌, sym, ◌∙◌, ap, subst}
use mathlib.Core.List.{List, [], ◌∷◌, ◌++◌, append-nil}
use Prim.Native.Nat.{ℕ, zero, suc, ◌≤◌, ◌<◌, min}
use native.Mathlib.Decide.{dec_lt}
use native.Mathlib.Omega.{arith}
use lib.ListN.{length, take, drop, length-append, drop_of_length-le}
use lib.Seq.{take_all, take_at, drop_at}
use Rattle.std.specs.Iterator.{AlwaysYields}
use Rattle.std.specs.Slice.Iter.{chunks_rest, chunks_size, chunks_steps}
use Rattle.std.proofs.lemmas.Iterator.{YieldsList}
use Rattle.std.proofs.lemmas.List.{nil_from_length}
use Rattle.law_lists.specs.Portions.{portions}
use Rattle.law_lists.proofs.Portions.{portions_first, portions_none}
use Rattle.std.specs.declared.slice.Chunks.{Chunks}

module _ {A : Type 0} (size : ℕ) where
  -- what is taken in front is a portion, and leaves the others
  module _ (chunk : List A) where
    taken : (rest : List A) → length chunk ≡ min size (length (chunk ++ rest)) → (take size (chunk ++ rest) ≡ chunk) × (drop size (chunk ++ rest) ≡ rest)
    taken [] long =
        let whole = length-append chunk [] in
        (take_all size (chunk ++ []) (omega arith) ∙ append-nil chunk, drop_of_length-le (chunk ++ []) (omega arith))
    taken (x ∷ xs) long =
        let is : length chunk ≡ size = omega (arith, length-append chunk (x ∷ xs)) in
        (take_at chunk (x ∷ xs) size is, drop_at chunk (x ∷ xs) size is)

    pub chunk_first : (rest xs : List A) → xs ≡ chunk ++ rest → length chunk ≡ min size (length xs) → 0 < size → 0 < length xs → portions size xs ≡ chunk ∷ portions size rest
    chunk_first rest xs e long some there =
        let cut = taken rest (long ∙ ap (λ (l : List A). min size (length l)) e) in
        portions_first size some xs there
        ∙ ap (λ (l : List A). take size l ∷ portions size (drop size l)) e
        ∙ ap (λ (l : List A). l ∷ portions size (drop size (chunk ++ rest))) cut.0
        ∙ ap (λ (l : List A). chunk ∷ portions size l) cut.1

  module _ (some : 0 < size) where
    abbrev Yield : Chunks A → List (List A) → Type 0
    Yield s ps = AlwaysYields (chunks_steps {A = A}) (λ x. x.now) s ps

    -- none is left, or so many at most
    module _ (s : Chunks A) where
      none : length (chunks_rest s) ≡ 0 → Yield s (portions size (chunks_rest s))
      none e =
          subst (Yield s) (sym (ap (portions size) (nil_from_length (chunks_rest s) e) ∙ portions_none size)) (λ x t k. let more = k.1.2 in absurd (omega arith))

    each : (many : ℕ) (s : Chunks A) → length (chunks_rest s) ≤ many → chunks_size s ≡ size → Yield s (portions size (chunks_rest s))
    each zero s few f = none s (omega arith)
    each (suc many) s few f = elim (dec_lt 0 (length (chunks_rest s))) [
      | yes there ↦ subst (Yield s) (sym (portions_first size some (chunks_rest s) there)) (
        (λ t k. let end = k.1.0 in absurd (omega arith)),
        (λ x t k.
            let long : length x.now ≡ min size (length (chunks_rest s)) = k.1.1 ∙ ap (λ (n : ℕ). min n (length (chunks_rest s))) f in
            let cut = taken x.now (chunks_rest t) (long ∙ ap (λ (l : List A). min size (length l)) k.1.0) in
            let rest : drop size (chunks_rest s) ≡ chunks_rest t = ap (drop size) k.1.0 ∙ cut.1 in
            let fewer = each many t (omega (arith, ap length k.1.0, length-append x.now (chunks_rest t))) (k.0 ∙ f) in
            (sym (ap (take size) k.1.0 ∙ cut.0), subst (λ (l : List A). Yield t (portions size l)) (sym rest) fewer)),
      )
      | no empty ↦ none s (omega arith)
    ]

    pub chunks_yield : (s : Chunks A) (xs : List A) → chunks_rest s ≡ xs → chunks_size s ≡ size → YieldsList chunks_steps (λ x. x.now) s (portions size xs)
    chunks_yield s xs e f = record { runs = subst (λ (l : List A). Yield s (portions size l)) e (each (length (chunks_rest s)) s (omega arith) f) }
