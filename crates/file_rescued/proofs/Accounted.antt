-- Every block of a file is kept or is in the report, and none is there twice: of each block the report has what is to be said of it, once, and nothing
-- else. What is left over behind the last whole block is reported last, and not at all where nothing is left over. These are laws of `rescued`, which is
-- what an accepted call gives (`few-kept`).
use mathlib.Core.Path.{◌≡◌, refl, ◌∙◌, ap}
use mathlib.Core.Bool.{Bool, true, false, cond}
use mathlib.Core.List.{List, [], ◌∷◌, ◌++◌, append-nil}
use Prim.Native.Nat.{ℕ, zero, suc, ◌+◌, ◌-◌, ◌*◌, ◌≤◌, ◌<◌}
use native.Mathlib.Omega.{arith}
use borrow.Author.Tests.{eq-eqb, ne_eqb, le-ltb, lt-ltb}
use lib.Dec.{eqb, ltb}
use lib.ListN.{length, get_or, take, drop, length-take, length-drop}
use lib.Seq.{take_all}
use Rattle.law_lists.specs.Places.{part}
use Rattle.law_lists.specs.Portions.{portions}
use Rattle.law_lists.proofs.Portions.{portions_first, portions_none}
use Rattle.check_verdicts.specs.Verdicts.{Fault, Verdict, numbered, accepted, refused}
use Rattle.block_parts.specs.Parts.{number_in, records_in}
use Rattle.file_narration.proofs.Cuts.{no_members}
use Rattle.file_narration.proofs.InPieces.{portions_split}
use Rattle.block_kept.specs.Kept.{kept_verdict}
use Rattle.block_kept.proofs.Kept.{too_short}
use Rattle.file_rescued.specs.Rescues.{Entry, dropped, moved, stray, kept_of, entries_by, entries_of, number_after, report_from, rescued}
use Rattle.file_rescued.proofs.Portioned.{portion_at}
use Rattle.file_rescued.proofs.Reports.{report_left, number_after_lem, report_split}

-- ---- what a report has of a block

-- whether an entry is of the block at this place
abbrev pub is_of : ℕ → Entry → Bool
is_of place (dropped at fault) = eqb at place
is_of place (moved at old new) = eqb at place
is_of place (stray count) = false

-- all that are
unfoldable pub entries_at : ℕ → List Entry → List Entry
entries_at place [] = []
entries_at place (entry ∷ entries) = cond (is_of place entry) (entry ∷ entries_at place entries) (entries_at place entries)

at_none : (place : ℕ) → entries_at place [] ≡ []
unfolding entries_at
at_none place = refl

at_split : (place : ℕ) (xs ys : List Entry) → entries_at place (xs ++ ys) ≡ entries_at place xs ++ entries_at place ys
unfolding entries_at
at_split place [] ys = refl
at_split place (x ∷ xs) ys = by (at_split place xs ys) (is_of place x)
  where
    by : entries_at place (xs ++ ys) ≡ entries_at place xs ++ entries_at place ys → (b : Bool)
        → cond b (x ∷ entries_at place (xs ++ ys)) (entries_at place (xs ++ ys)) ≡ cond b (x ∷ entries_at place xs) (entries_at place xs) ++ entries_at place ys
    by rest true = ap (λ (l : List Entry). x ∷ l) rest
    by rest false = rest

-- the entry of another block is not one of this block's
module _ (place at number : ℕ) (portion : List ℕ) (other : eqb at place ≡ false) where
  others_entries : (v : Verdict (List ℕ)) → entries_at place (entries_by at number portion v) ≡ []
  unfolding entries_at
  others_entries (accepted records) = by (eqb (number_in portion) number)
    where
      by : (b : Bool) → entries_at place (cond b [] (moved at (number_in portion) number ∷ [])) ≡ []
      by true = refl
      by false = rw other
  others_entries (refused fault) = by (ltb (length portion) 512)
    where
      by : (b : Bool) → entries_at place (cond b (stray (length portion)) (dropped at fault) ∷ []) ≡ []
      by true = refl
      by false = rw other

-- its own are, where it is a whole block
module _ (place number : ℕ) (portion : List ℕ) (whole : 512 ≤ length portion) where
  own_entries : (v : Verdict (List ℕ)) → entries_at place (entries_by place number portion v) ≡ entries_by place number portion v
  unfolding entries_at
  own_entries (accepted records) = by (eqb (number_in portion) number)
    where
      by : (b : Bool) → entries_at place (cond b [] (moved place (number_in portion) number ∷ [])) ≡ cond b [] (moved place (number_in portion) number ∷ [])
      by true = refl
      by false = rw (eq-eqb place place refl)
  own_entries (refused fault) = rw (le-ltb _ _ whole, eq-eqb place place refl)

-- what comes after a place says nothing of it
none_later : (place start number : ℕ) (ps : List (List ℕ)) → place < start → entries_at place (report_from start number ps) ≡ []
unfolding report_from
none_later place start number [] h = at_none place
none_later place start number (p ∷ ps) h =
    at_split place (entries_of start number p) (report_from (suc start) (number_after number p) ps)
    ∙ ap (λ (l : List Entry). l ++ entries_at place (report_from (suc start) (number_after number p) ps))
    (others_entries place start number p (ne_eqb start place (λ same. omega arith)) (kept_verdict p))
    ∙ none_later place (suc start) (number_after number p) ps (omega arith)

pub none_kept : (number : ℕ) → number ≡ number + length (kept_of [])
unfolding kept_of
none_kept number = omega arith

report_first : (place number : ℕ) (p : List ℕ) (ps : List (List ℕ)) → report_from place number (p ∷ ps) ≡ entries_of place number p ++ report_from (suc place) (number_after number p) ps
unfolding report_from
report_first place number p ps = refl

none_reported : (place number : ℕ) → report_from place number [] ≡ []
unfolding report_from
none_reported place number = refl

-- ---- of each block what is to be said of it

-- the portion so far on from this place
each_in : (ps : List (List ℕ)) (k place number at : ℕ) → k < length ps → at ≡ place + k → 512 ≤ length (get_or ps k [])
    → entries_at at (report_from place number ps) ≡ entries_of at (number + length (kept_of (take k ps))) (get_or ps k [])
unfolding report_from
each_in [] k place number at h e whole = absurd (omega arith)
each_in (p ∷ ps) zero place number at h e whole =
    let here : place ≡ at = omega arith in
    at_split at (entries_of place number p) (report_from (suc place) (number_after number p) ps)
    ∙ ap (λ (l : List Entry). entries_at at (entries_of place number p) ++ l) (none_later at (suc place) (number_after number p) ps (omega arith))
    ∙ append-nil (entries_at at (entries_of place number p))
    ∙ ap (λ (k : ℕ). entries_at at (entries_of k number p)) here
    ∙ own_entries at number p whole (kept_verdict p)
    ∙ ap (λ (n : ℕ). entries_of at n p) (none_kept number)
each_in (p ∷ ps) (suc k) place number at h e whole =
    at_split at (entries_of place number p) (report_from (suc place) (number_after number p) ps)
    ∙ ap (λ (l : List Entry). l ++ entries_at at (report_from (suc place) (number_after number p) ps))
    (others_entries at place number p (ne_eqb place at (λ same. omega arith)) (kept_verdict p))
    ∙ each_in ps k (suc place) (number_after number p) at (omega arith) (omega arith) whole
    ∙ ap (λ (n : ℕ). entries_of at n (get_or ps k [])) (number_after_lem number p (take k ps))

-- the block at a place of a file, and the number that it takes if it is kept: how many before it are
abbrev pub block_at : List ℕ → ℕ → List ℕ
block_at file place = part (512 * place) (512 * place + 512) file

abbrev pub new_number : List ℕ → ℕ → ℕ
new_number file place = length (kept_of (take place (portions 512 file)))

-- there are as many portions as the bytes fill
pub enough_portions : (k : ℕ) (file : List ℕ) → 512 * k + 512 ≤ length file → k < length (portions 512 file)
enough_portions zero file h = omega (arith, ap length (portions_first 512 (omega arith) file (omega arith)))
enough_portions (suc k) file h =
    omega (arith, ap length (portions_first 512 (omega arith) file (omega arith)), enough_portions k (drop 512 file) (omega (arith, length-drop 512 file)))

module _ (file : List ℕ) (place : ℕ) (there : 512 * place + 512 ≤ length file) where
  pub each_once : entries_at place (rescued file).report ≡ entries_of place (new_number file place) (block_at file place)
  each_once =
      let its = portion_at 512 (omega arith) place file in
      let long : 512 ≤ length (get_or (portions 512 file) place []) =
      omega (arith, ap length its, length-take (512 * place + 512 - 512 * place) (drop (512 * place) file), length-drop (512 * place) file)
      in
      let from-0 : 0 + new_number file place ≡ new_number file place = omega arith in
      each_in (portions 512 file) place 0 0 place (enough_portions place file there) (omega arith) long
      ∙ ap (λ (n : ℕ). entries_of place n (get_or (portions 512 file) place [])) from-0
      ∙ ap (entries_of place (new_number file place)) its

  block_long : 512 ≤ length (block_at file place)
  block_long = omega (arith, length-take (512 * place + 512 - 512 * place) (drop (512 * place) file), length-drop (512 * place) file)

  -- one that is not kept is dropped there, once, with its first fault
  pub dropped_once : (fault : Fault) → kept_verdict (block_at file place) ≡ refused fault → entries_at place (rescued file).report ≡ dropped place fault ∷ []
  dropped_once fault e =
      each_once
      ∙ ap (entries_by place (new_number file place) (block_at file place)) e
      ∙ ap (λ (b : Bool). cond b (stray (length (block_at file place))) (dropped place fault) ∷ []) (le-ltb _ _ block_long)

  -- one that is kept is not dropped: what is said of it, if anything, is its old number and its new one
  pub kept_not_dropped : (records : List ℕ) → kept_verdict (block_at file place) ≡ accepted records
      → entries_at place (rescued file).report
      ≡ cond (eqb (number_in (block_at file place)) (new_number file place)) [] (moved place (number_in (block_at file place)) (new_number file place) ∷ [])
  kept_not_dropped records e = each_once ∙ ap (entries_by place (new_number file place) (block_at file place)) e

-- ---- and last the stray bytes

-- whole blocks, and what is left over: fewer bytes than a block has
module _ (blocks rest : List ℕ) (many : ℕ) (whole : length blocks ≡ 512 * many) (left : length rest < 512) where
  cut : portions 512 (blocks ++ rest) ≡ portions 512 blocks ++ portions 512 rest
  cut = portions_split 512 (omega arith) many blocks rest whole

  -- where some are left over, how many they are
  pub stray_last : 0 < length rest → (rescued (blocks ++ rest)).report ≡ (rescued blocks).report ++ (stray (length rest) ∷ [])
  stray_last some =
      let one : portions 512 rest ≡ rest ∷ [] =
      portions_first 512 (omega arith) rest some
      ∙ ap (λ (p : List ℕ). p ∷ portions 512 (drop 512 rest)) (take_all 512 rest (omega arith))
      ∙ ap (λ (ps : List (List ℕ)). rest ∷ ps) (ap (portions 512) (no_members (drop 512 rest) (omega (arith, length-drop 512 rest))) ∙ portions_none 512)
      in
      let fault = too_short rest (accepted (records_in rest)) left in
      let place = 0 + length (portions 512 blocks) in
      let number = 0 + length (kept_of (portions 512 blocks)) in
      ap (report_from 0 0) cut
      ∙ report_split 0 0 (portions 512 blocks) (portions 512 rest)
      ∙ ap (λ (ps : List (List ℕ)). report_from 0 0 (portions 512 blocks) ++ report_from place number ps) one
      ∙ ap (λ (l : List Entry). report_from 0 0 (portions 512 blocks) ++ l)
      (report_left place number rest [] (numbered 9) fault
      ∙ ap (λ (b : Bool). cond b (stray (length rest)) (dropped place (numbered 9)) ∷ report_from (suc place) number []) (lt-ltb _ _ left)
      ∙ ap (λ (l : List Entry). stray (length rest) ∷ l) (none_reported (suc place) number))

-- ---- nothing else

-- the portions end before this place
none_past : (place start number : ℕ) (ps : List (List ℕ)) → start + length ps ≤ place → entries_at place (report_from start number ps) ≡ []
unfolding report_from
none_past place start number [] h = at_none place
none_past place start number (p ∷ ps) h =
    at_split place (entries_of start number p) (report_from (suc start) (number_after number p) ps)
    ∙ ap (λ (l : List Entry). l ++ entries_at place (report_from (suc start) (number_after number p) ps))
    (others_entries place start number p (ne_eqb start place (λ same. omega arith)) (kept_verdict p))
    ∙ none_past place (suc start) (number_after number p) ps (omega arith)

-- of no block that the file has not
pub none_beyond : (file : List ℕ) (place : ℕ) → length (portions 512 file) ≤ place → entries_at place (rescued file).report ≡ []
none_beyond file place h = none_past place 0 0 (portions 512 file) (omega arith)

-- how many stray bytes are reported, for each time they are
unfoldable pub strays_in : List Entry → List ℕ
strays_in [] = []
strays_in (stray count ∷ entries) = count ∷ strays_in entries
strays_in (dropped place fault ∷ entries) = strays_in entries
strays_in (moved place old new ∷ entries) = strays_in entries

strays_split : (xs ys : List Entry) → strays_in (xs ++ ys) ≡ strays_in xs ++ strays_in ys
unfolding strays_in
strays_split [] ys = refl
strays_split (stray count ∷ xs) ys = ap (λ (l : List ℕ). count ∷ l) (strays_split xs ys)
strays_split (dropped place fault ∷ xs) ys = strays_split xs ys
strays_split (moved place old new ∷ xs) ys = strays_split xs ys

-- of a whole block none are
whole_strays : (place number : ℕ) (portion : List ℕ) → 512 ≤ length portion → (v : Verdict (List ℕ)) → strays_in (entries_by place number portion v) ≡ []
unfolding strays_in
whole_strays place number portion whole (accepted records) = by (eqb (number_in portion) number)
  where
    by : (b : Bool) → strays_in (cond b [] (moved place (number_in portion) number ∷ [])) ≡ []
    by true = refl
    by false = refl
whole_strays place number portion whole (refused fault) = rw (le-ltb _ _ whole)

no_strays : strays_in [] ≡ []
unfolding strays_in
no_strays = refl

strays_in_lem : (many place number : ℕ) (blocks : List ℕ) → length blocks ≡ 512 * many → strays_in (report_from place number (portions 512 blocks)) ≡ []
strays_in_lem zero place number blocks is =
    ap (λ (ps : List (List ℕ)). strays_in (report_from place number ps)) (ap (portions 512) (no_members blocks (omega arith)) ∙ portions_none 512)
    ∙ ap strays_in (none_reported place number) ∙ no_strays
strays_in_lem (suc many) place number blocks is =
    let p = take 512 blocks in
    let ps = portions 512 (drop 512 blocks) in
    ap (λ (qs : List (List ℕ)). strays_in (report_from place number qs)) (portions_first 512 (omega arith) blocks (omega arith))
    ∙ ap strays_in (report_first place number p ps)
    ∙ strays_split (entries_of place number p) (report_from (suc place) (number_after number p) ps)
    ∙ ap (λ (l : List ℕ). l ++ strays_in (report_from (suc place) (number_after number p) ps))
    (whole_strays place number p (omega (arith, length-take 512 blocks)) (kept_verdict p))
    ∙ strays_in_lem many (suc place) (number_after number p) (drop 512 blocks) (omega (arith, length-drop 512 blocks))

-- a file of whole blocks has none
pub none_stray : (blocks : List ℕ) (many : ℕ) → length blocks ≡ 512 * many → strays_in (rescued blocks).report ≡ []
none_stray blocks many is = strays_in_lem many 0 0 blocks is
