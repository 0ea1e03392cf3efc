-- A file that is taken piece by piece, each of whole portions but the last, gives what it gives taken at once: so a program needs the memory of a
-- piece.
use mathlib.Core.Path.{◌≡◌, refl, sym, ◌∙◌, ap}
use mathlib.Core.List.{List, [], ◌∷◌, ◌++◌, append_assoc}
use Prim.Native.Nat.{ℕ, zero, suc, ◌+◌, ◌*◌, ◌<◌}
use native.Mathlib.Nat.{mul-suc}
use native.Mathlib.Omega.{arith}
use lib.ListN.{length, take, drop, length-drop, length-append}
use lib.Seq.{take-append-le, drop-append-le}
use Rattle.law_lists.specs.Portions.{portions}
use Rattle.law_lists.proofs.Portions.{portions_first, portions_none}
use Rattle.check_verdicts.specs.Verdicts.{Verdict, accepted, refused}
use Rattle.file_narration.specs.Files.{End, whole, refused_at, Outcome, before, go_on, outcome_from}
use Rattle.file_narration.proofs.Cuts.{no_members}

-- an outcome, and what follows it where nothing is refused
abbrev by_end : End → Outcome → Outcome → Outcome
by_end whole first rest = before first.given rest
by_end (refused_at number fault) first rest = first

abbrev pub followed_by : Outcome → Outcome → Outcome
followed_by first rest = by_end first.end first rest

before-first : (bytes given : List ℕ) (end : End) (rest : Outcome)
    → before bytes (by_end end (record { given = given; end = end }) rest) ≡ by_end end (record { given = bytes ++ given; end = end }) rest
before-first bytes given whole rest = ap (λ (l : List ℕ). record { given = l; end = rest.end }) (sym (append_assoc bytes given rest.given))
before-first bytes given (refused_at number fault) rest = refl

module _ (verdict : ℕ → List ℕ → Verdict (List ℕ)) where
  outcome_split : (number : ℕ) (ps qs : List (List ℕ)) → outcome_from verdict number (ps ++ qs) ≡ followed_by (outcome_from verdict number ps) (outcome_from verdict (number + length ps) qs)
  unfolding outcome_from
  outcome_split number [] qs = let same : number + 0 ≡ number = omega arith in ap (λ (n : ℕ). outcome_from verdict n qs) (sym same)
  outcome_split number (p ∷ ps) qs =
      let on : suc number + length ps ≡ number + suc (length ps) = omega arith in
      ap (go_on number (verdict number p)) (outcome_split (suc number) ps qs ∙ ap (λ (n : ℕ). followed_by (outcome_from verdict (suc number) ps) (outcome_from verdict n qs)) on)
      ∙ by_first (verdict number p)
    where
      by_first : (v : Verdict (List ℕ)) → go_on number v (followed_by (outcome_from verdict (suc number) ps) (outcome_from verdict (number + suc (length ps)) qs))
          ≡ followed_by (go_on number v (outcome_from verdict (suc number) ps)) (outcome_from verdict (number + suc (length ps)) qs)
      by_first (accepted bytes) =
          let first = outcome_from verdict (suc number) ps in
          before-first bytes first.given first.end (outcome_from verdict (number + suc (length ps)) qs)
      by_first (refused fault) = refl

-- whole portions, and what comes after them
pub portions_split : (size : ℕ) → 0 < size → (many : ℕ) (xs ys : List ℕ) → length xs ≡ size * many → portions size (xs ++ ys) ≡ portions size xs ++ portions size ys
portions_split size some zero xs ys e =
    let empty = no_members xs (omega arith) in
    ap (λ (l : List ℕ). portions size (l ++ ys)) empty ∙ ap (λ (ps : List (List ℕ)). ps ++ portions size ys) (sym (ap (portions size) empty ∙ portions_none size))
portions_split size some (suc many) xs ys e =
    let more = mul-suc size many in
    let first : take size (xs ++ ys) ≡ take size xs = take-append-le size xs ys (omega arith) in
    let rest : drop size (xs ++ ys) ≡ drop size xs ++ ys = drop-append-le size xs ys (omega arith) in
    portions_first size some (xs ++ ys) (omega (arith, length-append xs ys))
    ∙ ap (λ (p : List ℕ). p ∷ portions size (drop size (xs ++ ys))) first
    ∙ ap (λ (l : List ℕ). take size xs ∷ portions size l) rest
    ∙ ap (λ (ps : List (List ℕ)). take size xs ∷ ps) (portions_split size some many (drop size xs) ys (omega (arith, length-drop size xs)))
    ∙ ap (λ (ps : List (List ℕ)). ps ++ portions size ys) (sym (portions_first size some xs (omega arith)))

pub in_pieces : (verdict : ℕ → List ℕ → Verdict (List ℕ)) (size number many : ℕ) (piece rest : List ℕ) → 0 < size → length piece ≡ size * many
    → outcome_from verdict number (portions size (piece ++ rest))
    ≡ followed_by (outcome_from verdict number (portions size piece)) (outcome_from verdict (number + length (portions size piece)) (portions size rest))
in_pieces verdict size number many piece rest some e =
    ap (outcome_from verdict number) (portions_split size some many piece rest e) ∙ outcome_split verdict number (portions size piece) (portions size rest)
