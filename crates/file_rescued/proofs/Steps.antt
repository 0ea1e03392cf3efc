-- The steps, one after the other, make what the definition says, as long as there are numbers for the blocks that are kept. And a file can be taken
-- piece by piece.
use mathlib.Core.Path.{◌≡◌, refl, sym, ◌∙◌, ap}
use mathlib.Core.List.{List, [], ◌∷◌, ◌++◌}
use Prim.Native.Nat.{ℕ, suc, ◌+◌, ◌*◌, ◌≤◌}
use native.Mathlib.Omega.{arith}
use lib.ListN.{length, length-append}
use Rattle.law_lists.specs.Portions.{portions}
use Rattle.check_verdicts.specs.Verdicts.{Verdict, accepted, refused}
use Rattle.file_narration.proofs.InPieces.{portions_split}
use Rattle.block_kept.specs.Kept.{kept_verdict}
use Rattle.block_rescue.specs.Rescue.{renumbered, rescue_verdict}
use Rattle.block_rescue.proofs.Rescue.{rescue_fault, takes_number}
use Rattle.file_rescued.specs.Rescues.{Entry, kept_of, numbered_from, report_from, Stepped, next_by, step_then, stepped_from}
use Rattle.file_rescued.proofs.KeptBlocks.{kept_first, left_first}
use Rattle.file_rescued.proofs.Reports.{report_kept, report_left, kept_split, numbered_split, report_split}

-- what the definition says of some portions
abbrev pub rescued_from : ℕ → ℕ → List (List ℕ) → Stepped
rescued_from place number ps = record { mended = numbered_from number (kept_of ps); report = report_from place number ps; next = number + length (kept_of ps) }

-- the first step, by its verdict
pub step_first : (place number : ℕ) (p : List ℕ) (ps : List (List ℕ)) (v : Verdict (List ℕ)) → rescue_verdict number p ≡ v
    → stepped_from place number (p ∷ ps) ≡ step_then place number p v (stepped_from (suc place) (next_by number v) ps)
unfolding stepped_from
step_first place number p ps v e = ap (λ (w : Verdict (List ℕ)). step_then place number p w (stepped_from (suc place) (next_by number w) ps)) e

numbered_first : (number : ℕ) (b : List ℕ) (bs : List (List ℕ)) → numbered_from number (b ∷ bs) ≡ renumbered number b ++ numbered_from (suc number) bs
unfolding numbered_from
numbered_first number b bs = refl

same_parts : {m m' : List ℕ} {r r' : List Entry} {n n' : ℕ} → m ≡ m' → r ≡ r' → n ≡ n'
    → ◌≡◌ {A = Stepped} (record { mended = m; report = r; next = n }) (record { mended = m'; report = r'; next = n' })
same_parts a b c = cc

module _ (place number : ℕ) (p : List ℕ) (ps : List (List ℕ)) where
  by : (v : Verdict (List ℕ)) → kept_verdict p ≡ v → number + length (kept_of (p ∷ ps)) ≤ 65536
      → ((n : ℕ) → n + length (kept_of ps) ≤ 65536 → stepped_from (suc place) n ps ≡ rescued_from (suc place) n ps) → stepped_from place number (p ∷ ps) ≡ rescued_from place number (p ∷ ps)
  by (accepted records) e few rest =
      let first = kept_first p ps records e in
      let many = ap length first in
      let becomes = renumbered number p in
      step_first place number p ps (accepted becomes) (takes_number number p records e (omega arith))
      ∙ ap (step_then place number p (accepted becomes)) (rest (suc number) (omega arith))
      ∙ same_parts
      (sym (ap (numbered_from number) first ∙ numbered_first number p (kept_of ps)))
      (sym (report_kept place number p ps records e))
      (omega arith)
  by (refused fault) e few rest =
      let first = left_first p ps fault e in
      let many = ap length first in
      step_first place number p ps (refused fault) (rescue_fault number p fault e)
      ∙ ap (step_then place number p (refused fault)) (rest number (omega arith))
      ∙ same_parts (sym (ap (numbered_from number) first)) (sym (report_left place number p ps fault e)) (omega arith)

pub steps_make : (ps : List (List ℕ)) (place number : ℕ) → number + length (kept_of ps) ≤ 65536 → stepped_from place number ps ≡ rescued_from place number ps
unfolding stepped_from numbered_from report_from kept_of
steps_make [] place number few = let same : number ≡ number + 0 = omega arith in ap (λ (n : ℕ). record { mended = []; report = []; next = n }) same
steps_make (p ∷ ps) place number few = by place number p ps (kept_verdict p) refl few (λ n h. steps_make ps (suc place) n h)

-- ---- piece by piece

-- what comes of some portions, and then of those after them
abbrev pub followed_by : Stepped → Stepped → Stepped
followed_by first rest = record { mended = first.mended ++ rest.mended; report = first.report ++ rest.report; next = rest.next }

-- a file that is taken piece by piece, each of whole blocks but the last, comes out as it does at once: so a program needs the memory of a piece
pub in_pieces : (place number many : ℕ) (piece rest : List ℕ) → length piece ≡ 512 * many
    → rescued_from place number (portions 512 (piece ++ rest))
    ≡ followed_by (rescued_from place number (portions 512 piece))
    (rescued_from (place + length (portions 512 piece)) (number + length (kept_of (portions 512 piece))) (portions 512 rest))
in_pieces place number many piece rest is =
    let ps = portions 512 piece in
    let qs = portions 512 rest in
    let cut = portions_split 512 (omega arith) many piece rest is in
    let kept = ap kept_of cut ∙ kept_split ps qs in
    same_parts
    (ap (numbered_from number) kept ∙ numbered_split number (kept_of ps) (kept_of qs))
    (ap (report_from place number) cut ∙ report_split place number ps qs)
    (omega (arith, ap length kept, length-append (kept_of ps) (kept_of qs)))
