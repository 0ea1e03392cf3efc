-- Laws of the portions of a file of bytes: what each is, and where it stands.
use mathlib.Core.Path.{◌≡◌, sym, ◌∙◌, ap, subst}
use mathlib.Core.List.{List, [], ◌∷◌}
use Prim.Native.Nat.{ℕ, zero, suc, ◌+◌, ◌-◌, ◌*◌, ◌≤◌, ◌<◌}
use native.Mathlib.Nat.{mul-suc}
use native.Mathlib.Decide.{dec_lt}
use native.Mathlib.Omega.{arith}
use lib.ListN.{length, get_or, take, drop, length-take, length-drop}
use lib.Seq.{take-nil, drop-nil, drop-drop}
use Rattle.law_lists.specs.Places.{part}
use Rattle.law_lists.specs.Portions.{portions}
use Rattle.law_lists.proofs.Portions.{portions_first, portions_none}
use Rattle.file_narration.proofs.Cuts.{no_members}
use Rattle.file_narration.proofs.OnlyBlock.{AreBytes, first_bytes, rest_bytes}

-- bytes, and no more than a block has
pub record Portion (portion : List ℕ) : Type 0 where
  pub bytes : AreBytes portion
  pub few : length portion ≤ 512

-- every list of a list is so
abbrev pub AllPortions : List (List ℕ) → Type 0
AllPortions [] = Unit {0}
AllPortions (portion ∷ rest) = Portion portion × AllPortions rest

portions_in_lem : (many : ℕ) (file : List ℕ) → length file ≤ many → AreBytes file → AllPortions (portions 512 file)
portions_in_lem zero file h bytes = subst AllPortions (sym (ap (portions 512) (no_members file (omega arith)) ∙ portions_none 512)) tt
portions_in_lem (suc many) file h bytes = elim (dec_lt 0 (length file)) [
  | yes there ↦
      subst AllPortions (sym (portions_first 512 (omega arith) file there)) (
        record { bytes = first_bytes 512 file bytes; few = omega (arith, length-take 512 file) },
        portions_in_lem many (drop 512 file) (omega (arith, length-drop 512 file)) (rest_bytes 512 file bytes),
      )
  | no none ↦ subst AllPortions (sym (ap (portions 512) (no_members file (omega arith)) ∙ portions_none 512)) tt
]

pub file_portions : (file : List ℕ) → AreBytes file → AllPortions (portions 512 file)
file_portions file bytes = portions_in_lem (length file) file (omega arith) bytes

-- the portion at a place is the bytes there
module _ {A : Type 0} (size : ℕ) (some : 0 < size) where
  none_there : (k : ℕ) (xs : List A) → length xs ≡ 0 → get_or (portions size xs) k [] ≡ part (size * k) (size * k + size) xs
  none_there k xs h =
      let empty = no_members xs h in
      ap (λ (l : List A). get_or (portions size l) k []) empty
      ∙ ap (λ (ps : List (List A)). get_or ps k []) (portions_none size)
      ∙ sym (ap (part (size * k) (size * k + size)) empty ∙ ap (take (size * k + size - size * k)) (drop-nil (size * k)) ∙ take-nil (size * k + size - size * k))

  pub portion_at : (k : ℕ) (xs : List A) → get_or (portions size xs) k [] ≡ part (size * k) (size * k + size) xs
  portion_at zero xs = elim (dec_lt 0 (length xs)) [
    | yes there ↦
        let start : size * 0 ≡ 0 = omega arith in
        let all : size * 0 + size - size * 0 ≡ size = omega arith in
        ap (λ (ps : List (List A)). get_or ps 0 []) (portions_first size some xs there)
        ∙ sym (ap (λ (n : ℕ). take n (drop (size * 0) xs)) all ∙ ap (λ (n : ℕ). take size (drop n xs)) start)
    | no none ↦ none_there zero xs (omega arith)
  ]
  portion_at (suc k) xs = elim (dec_lt 0 (length xs)) [
    | yes there ↦
        let more = mul-suc size k in
        let start : size + size * k ≡ size * suc k = omega arith in
        let all : size * k + size - size * k ≡ size * suc k + size - size * suc k = omega arith in
        ap (λ (ps : List (List A)). get_or ps (suc k) []) (portions_first size some xs there)
        ∙ portion_at k (drop size xs)
        ∙ ap (take (size * k + size - size * k)) (drop-drop (size * k) size xs)
        ∙ ap (λ (n : ℕ). take n (drop (size + size * k) xs)) all
        ∙ ap (λ (n : ℕ). take (size * suc k + size - size * suc k) (drop n xs)) start
    | no none ↦ none_there (suc k) xs (omega arith)
  ]
