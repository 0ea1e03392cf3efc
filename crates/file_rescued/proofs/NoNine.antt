-- No entry of a report bears a 9. The checks of a block say 9 only of bytes that are no whole block, and those are reported as stray bytes; so a block that
-- is dropped is dropped for 10, 11 or 12. The other 9, more blocks to keep than there are numbers for, refuses the call and is in no report.
use mathlib.Core.Path.{◌≡◌, refl, sym, subst}
use mathlib.Core.Bool.{Bool, true, false, cond, ◌&&◌, not}
use mathlib.Core.List.{List, [], ◌∷◌, ◌++◌}
use Prim.Native.Nat.{ℕ, suc, ◌≤◌}
use native.Mathlib.Omega.{arith}
use lib.Dec.{eqb, ltb}
use lib.ListN.{length}
use Rattle.law_lists.specs.Portions.{portions}
use Rattle.check_verdicts.specs.Verdicts.{Fault, numbered, Verdict, accepted, refused, number_of, check}
use Rattle.check_verdicts.proofs.Verdicts.{not_accepted}
use Rattle.block_parts.specs.Parts.{number_in, records_in, sums_right, header_right, fill_right, sound_records}
use Rattle.block_kept.specs.Kept.{kept_checks, kept_verdict}
use Rattle.file_rescued.specs.Rescues.{Entry, dropped, moved, stray, entries_by, entries_of, number_after, report_from, rescued}

abbrev TenToTwelve : Fault → Type 0
TenToTwelve fault = (10 ≤ number_of fault) × (number_of fault ≤ 12)

abbrev pub BearsNoNine : Entry → Type 0
BearsNoNine (dropped place fault) = TenToTwelve fault
BearsNoNine (moved place old new) = Unit {0}
BearsNoNine (stray count) = Unit {0}

unfoldable pub NoneNine : List Entry → Type 0
NoneNine [] = Unit {0}
NoneNine (entry ∷ entries) = BearsNoNine entry × NoneNine entries

none_on : (xs ys : List Entry) → NoneNine xs → NoneNine ys → NoneNine (xs ++ ys)
unfolding NoneNine
none_on [] ys a b = b
none_on (x ∷ xs) ys a b = (a.0, none_on xs ys a.1 b)

-- the first fault of a whole block, by whether sums, header and fill, and records are wrong
first_fault : (sums layout records : Bool) (given : List ℕ) (fault : Fault) → check 10 sums (check 11 layout (check 12 records (accepted given))) ≡ refused fault → TenToTwelve fault
first_fault true layout records given fault e = let same : numbered 10 ≡ fault = cc in subst TenToTwelve same (omega arith, omega arith)
first_fault false true records given fault e = let same : numbered 11 ≡ fault = cc in subst TenToTwelve same (omega arith, omega arith)
first_fault false false true given fault e = let same : numbered 12 ≡ fault = cc in subst TenToTwelve same (omega arith, omega arith)
first_fault false false false given fault e = not_accepted (sym e)

whole_faults : (portion : List ℕ) (fault : Fault) → ltb (length portion) 512 ≡ false → kept_verdict portion ≡ refused fault → TenToTwelve fault
unfolding kept_checks
whole_faults portion fault whole e =
    first_fault (not (sums_right portion)) (not (header_right portion && fill_right portion)) (not (sound_records (records_in portion))) (records_in portion) fault (rw whole at e)

module _ (place number : ℕ) (portion : List ℕ) where
  none_left : (fault : Fault) (short : Bool) → (short ≡ false → TenToTwelve fault) → NoneNine (cond short (stray (length portion)) (dropped place fault) ∷ [])
  unfolding NoneNine
  none_left fault true h = (tt, tt)
  none_left fault false h = (h refl, tt)

  none_kept : (same : Bool) → NoneNine (cond same [] (moved place (number_in portion) number ∷ []))
  unfolding NoneNine
  none_kept true = tt
  none_kept false = (tt, tt)

  none_by : (v : Verdict (List ℕ)) → ((fault : Fault) → v ≡ refused fault → ltb (length portion) 512 ≡ false → TenToTwelve fault) → NoneNine (entries_by place number portion v)
  none_by (accepted records) h = none_kept (eqb (number_in portion) number)
  none_by (refused fault) h = none_left fault (ltb (length portion) 512) (h fault refl)

none_from : (place number : ℕ) (ps : List (List ℕ)) → NoneNine (report_from place number ps)
unfolding report_from NoneNine
none_from place number [] = tt
none_from place number (p ∷ ps) =
    none_on (entries_of place number p) (report_from (suc place) (number_after number p) ps) (none_by place number p (kept_verdict p) (λ fault e whole. whole_faults p fault whole e))
    (none_from (suc place) (number_after number p) ps)

pub no_nine : (file : List ℕ) → NoneNine (rescued file).report
no_nine file = none_from 0 0 (portions 512 file)
