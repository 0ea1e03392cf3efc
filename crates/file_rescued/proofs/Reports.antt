-- Laws of the report: what its first portion adds to it, and that a file in two parts is reported part by part.
use mathlib.Core.Path.{◌≡◌, refl, sym, ◌∙◌, ap}
use mathlib.Core.List.{List, [], ◌∷◌, ◌++◌, append_assoc}
use Prim.Native.Nat.{ℕ, suc, ◌+◌, ◌≤◌}
use native.Mathlib.Omega.{arith}
use lib.ListN.{length}
use Rattle.check_verdicts.specs.Verdicts.{Fault, Verdict, accepted, refused, unless_refused}
use Rattle.block_kept.specs.Kept.{kept_verdict}
use Rattle.block_rescue.specs.Rescue.{renumbered}
use Rattle.file_rescued.specs.Rescues.{Entry, kept_of, numbered_from, entries_by, entries_of, number_after, report_from}

module _ (place number : ℕ) (portion : List ℕ) (rest : List (List ℕ)) where
  pub report_kept : (records : List ℕ) → kept_verdict portion ≡ accepted records
      → report_from place number (portion ∷ rest) ≡ entries_by place number portion (accepted records) ++ report_from (suc place) (suc number) rest
  unfolding report_from
  report_kept records e = rw e

  pub report_left : (fault : Fault) → kept_verdict portion ≡ refused fault
      → report_from place number (portion ∷ rest) ≡ entries_by place number portion (refused fault) ++ report_from (suc place) number rest
  unfolding report_from
  report_left fault e = rw e

-- no more are kept than there are
pub kept_few : (ps : List (List ℕ)) → length (kept_of ps) ≤ length ps
unfolding kept_of
kept_few [] = omega arith
kept_few (p ∷ ps) = by (kept_few ps) (kept_verdict p)
  where
    by : length (kept_of ps) ≤ length ps → (v : Verdict (List ℕ)) → length (unless_refused v (λ records. p ∷ kept_of ps) (kept_of ps)) ≤ suc (length ps)
    by rest (accepted records) = omega arith
    by rest (refused fault) = omega arith

-- ---- in parts

pub kept_split : (ps qs : List (List ℕ)) → kept_of (ps ++ qs) ≡ kept_of ps ++ kept_of qs
unfolding kept_of
kept_split [] qs = refl
kept_split (p ∷ ps) qs = by (kept_split ps qs) (kept_verdict p)
  where
    by : kept_of (ps ++ qs) ≡ kept_of ps ++ kept_of qs → (v : Verdict (List ℕ))
        → unless_refused v (λ records. p ∷ kept_of (ps ++ qs)) (kept_of (ps ++ qs)) ≡ unless_refused v (λ records. p ∷ kept_of ps) (kept_of ps) ++ kept_of qs
    by rest (accepted records) = ap (λ (bs : List (List ℕ)). p ∷ bs) rest
    by rest (refused fault) = rest

pub numbered_split : (number : ℕ) (bs cs : List (List ℕ)) → numbered_from number (bs ++ cs) ≡ numbered_from number bs ++ numbered_from (number + length bs) cs
unfolding numbered_from
numbered_split number [] cs = let same : number ≡ number + 0 = omega arith in ap (λ (n : ℕ). numbered_from n cs) same
numbered_split number (b ∷ bs) cs =
    let on : suc number + length bs ≡ number + suc (length bs) = omega arith in
    ap (λ (l : List ℕ). renumbered number b ++ l) (numbered_split (suc number) bs cs ∙ ap (λ (n : ℕ). numbered_from (suc number) bs ++ numbered_from n cs) on)
    ∙ sym (append_assoc (renumbered number b) (numbered_from (suc number) bs) (numbered_from (number + suc (length bs)) cs))

-- the number that comes next is one on for each block that is kept
pub number_after_lem : (number : ℕ) (p : List ℕ) (ps : List (List ℕ)) → number_after number p + length (kept_of ps) ≡ number + length (kept_of (p ∷ ps))
unfolding kept_of
number_after_lem number p ps = by (kept_verdict p)
  where
    by : (v : Verdict (List ℕ)) → unless_refused v (λ records. suc number) number + length (kept_of ps) ≡ number + length (unless_refused v (λ records. p ∷ kept_of ps) (kept_of ps))
    by (accepted records) = omega arith
    by (refused fault) = refl

pub report_split : (place number : ℕ) (ps qs : List (List ℕ))
    → report_from place number (ps ++ qs) ≡ report_from place number ps ++ report_from (place + length ps) (number + length (kept_of ps)) qs
unfolding report_from kept_of
report_split place number [] qs =
    let here : place ≡ place + 0 = omega arith in
    let same : number ≡ number + 0 = omega arith in
    ap (λ (k : ℕ). report_from k number qs) here ∙ ap (λ (n : ℕ). report_from (place + 0) n qs) same
report_split place number (p ∷ ps) qs =
    let on : suc place + length ps ≡ place + suc (length ps) = omega arith in
    let next = number_after number p in
    let first = entries_of place number p in
    ap (λ (l : List Entry). first ++ l)
    (report_split (suc place) next ps qs
    ∙ ap (λ (k : ℕ). report_from (suc place) next ps ++ report_from k (next + length (kept_of ps)) qs) on
    ∙ ap (λ (n : ℕ). report_from (suc place) next ps ++ report_from (place + suc (length ps)) n qs) (number_after_lem number p ps))
    ∙ sym (append_assoc first (report_from (suc place) next ps) (report_from (place + suc (length ps)) (number + length (kept_of (p ∷ ps))) qs))
