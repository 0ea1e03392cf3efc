-- Laws of a block that is kept: it is one that the reader takes at the number that stands in it, and one that the reader takes at any number.
use mathlib.Core.Path.{◌≡◌, refl, sym, ◌∙◌, ap}
use mathlib.Core.Bool.{Bool, true, false, ◌&&◌, ◌||◌, not}
use mathlib.Core.List.{List}
use Prim.Native.Nat.{ℕ, ◌≤◌, ◌<◌}
use native.Mathlib.Decide.{dec_lt}
use native.Mathlib.Omega.{arith}
use borrow.Author.Tests.{lt-ltb, le-ltb, eq-eqb}
use lib.Dec.{ltb}
use lib.ListN.{length, take}
use lib.Seq.{get_or-take}
use Rattle.check_verdicts.specs.Verdicts.{Fault, Verdict, numbered, accepted, refused, check}
use Rattle.check_verdicts.proofs.Verdicts.{not_accepted}
use Rattle.block_parts.specs.Parts.{number_in, records_in, sums_right, header_right, fill_right, sound_records}
use Rattle.block_check.specs.Blocks.{block_verdict, read_verdict}
use Rattle.block_check.proofs.Verdicts.{AcceptedBlock, accepted_block, some_bytes}
use Rattle.block_kept.specs.Kept.{kept_checks, kept_verdict}

-- what the tests say, and what comes next where all are passed
abbrev by_tests : {A : Type 0} → Verdict A → Bool → Bool → Bool → Bool → Verdict A
by_tests next short sums layout sound = check 9 short (check 10 (not sums) (check 11 (not layout) (check 12 (not sound) next)))

tested : {A : Type 0} (block : List ℕ) (next : Verdict A) (short sums layout sound : Bool) → ltb (length block) 512 ≡ short → sums_right block ≡ sums
    → header_right block && fill_right block ≡ layout → sound_records (records_in block) ≡ sound → kept_checks block next ≡ by_tests next short sums layout sound
unfolding kept_checks
tested block next short sums layout sound a b c d = rw (a, b, c, d)

-- by what they say of a block
abbrev tests : {A : Type 0} → List ℕ → Verdict A → Verdict A
tests block next = by_tests next (ltb (length block) 512) (sums_right block) (header_right block && fill_right block) (sound_records (records_in block))

by_tests_lem : {A : Type 0} (block : List ℕ) (next : Verdict A) → kept_checks block next ≡ tests block next
by_tests_lem block next = tested block next _ _ _ _ refl refl refl refl

-- ---- the reader at the number that stands in a block

-- a number that is right is as good as none
without_number : (next : Verdict (List ℕ)) (short past sums header right fill sound : Bool) → past ≡ false → right ≡ true
    → check 9 (short || past) (check 10 (not sums) (check 11 (not (header && right && fill)) (check 12 (not sound) next))) ≡ by_tests next short sums (header && fill) sound
without_number next true past sums header right fill sound p r = refl
without_number next false past false header right fill sound p r = rw p
without_number next false past true true right fill sound p r = rw (p, r)
without_number next false past true false right fill sound p r = rw p

pub own_number : (block : List ℕ) → number_in block ≤ 65535 → block_verdict (number_in block) block ≡ kept_verdict block
unfolding block_verdict
own_number block few =
    without_number (accepted (records_in block)) (ltb (length block) 512) (ltb 65535 (number_in block)) (sums_right block) (header_right block) _ (fill_right block)
    (sound_records (records_in block)) (le-ltb _ _ few) (eq-eqb (number_in block) (number_in block) refl)
    ∙ sym (by_tests_lem block (accepted (records_in block)))

-- the number in the first of some bytes is the number in them
pub own_first : (bytes : List ℕ) → number_in (take 512 bytes) ≡ number_in bytes
own_first bytes = omega (arith, get_or-take 512 bytes 0 0 (omega arith), get_or-take 512 bytes 1 0 (omega arith))

-- the reader of the first of some bytes
pub own_read : (bytes : List ℕ) (own : ℕ) → 0 < length bytes → own ≤ 65535 → own ≡ number_in bytes → read_verdict own bytes ≡ kept_verdict (take 512 bytes)
own_read bytes own some few e =
    let its : own ≡ number_in (take 512 bytes) = e ∙ sym (own_first bytes) in
    some_bytes own bytes some ∙ ap (λ (n : ℕ). block_verdict n (take 512 bytes)) its ∙ own_number (take 512 bytes) (omega arith)

-- ---- what comes after the tests

module _ (block : List ℕ) where
  pub too_short : {A : Type 0} (next : Verdict A) → length block < 512 → kept_checks block next ≡ refused (numbered 9)
  too_short next h = tested block next true _ _ _ (lt-ltb _ _ h) refl refl refl

  -- of a block that is kept, that
  pub kept_on : {A : Type 0} (next : Verdict A) (records : List ℕ) → kept_verdict block ≡ accepted records → kept_checks block next ≡ next
  kept_on {A} next records e =
      by_tests_lem block next
      ∙ cases (ltb (length block) 512) (sums_right block) (header_right block && fill_right block) (sound_records (records_in block)) (sym (by_tests_lem block (accepted (records_in block))) ∙ e)
    where
      cases : (short sums layout sound : Bool) → by_tests (accepted (records_in block)) short sums layout sound ≡ accepted records → by_tests next short sums layout sound ≡ next
      cases true sums layout sound e = not_accepted e
      cases false false layout sound e = not_accepted e
      cases false true false sound e = not_accepted e
      cases false true true false e = not_accepted e
      cases false true true true e = refl

  -- of any other, its fault
  pub fault_stands : {A : Type 0} (next : Verdict A) (fault : Fault) → kept_verdict block ≡ refused fault → kept_checks block next ≡ refused fault
  fault_stands {A} next fault e =
      by_tests_lem block next
      ∙ cases (ltb (length block) 512) (sums_right block) (header_right block && fill_right block) (sound_records (records_in block)) (sym (by_tests_lem block (accepted (records_in block))) ∙ e)
    where
      cases : (short sums layout sound : Bool) → by_tests (accepted (records_in block)) short sums layout sound ≡ refused fault → by_tests next short sums layout sound ≡ refused fault
      cases true sums layout sound e = cc
      cases false false layout sound e = cc
      cases false true false sound e = cc
      cases false true true false e = cc
      cases false true true true e = not_accepted (sym e)

  -- ---- what is known of a block that is kept

  pub kept_block : (records : List ℕ) → number_in block ≤ 65535 → kept_verdict block ≡ accepted records → AcceptedBlock (number_in block) block records
  kept_block records few e = accepted_block (number_in block) block records (own_number block few ∙ e)

  -- a block that the reader takes at some number is kept, whatever stands before it: a wrong number is no fault
  pub any_number : (number : ℕ) (records : List ℕ) → block_verdict number block ≡ accepted records → kept_verdict block ≡ accepted records
  unfolding kept_checks
  any_number number records e =
      let a = accepted_block number block records e in
      let long = a.long in
      let its = a.given in
      rw (le-ltb _ _ long, a.sums, a.header, a.fill, a.sound) (ap accepted (sym its))

  pub kept_long : (records : List ℕ) → kept_verdict block ≡ accepted records → 512 ≤ length block
  kept_long records e = elim (dec_lt (length block) 512) [
    | yes short ↦ not_accepted (sym (too_short (accepted (records_in block)) short) ∙ e)
    | no long ↦ omega arith
  ]
