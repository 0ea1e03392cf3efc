-- The tests go one after the other: the length, the codes, the cost layer's checks, the bits.
use mathlib.Core.Path.{◌≡◌, sym, ◌∙◌, ap}
use mathlib.Core.Bool.{Bool, true, false}
use Rattle.std.proofs.Common.{rules, Result, Ok, Err, is_ok, MatchResult}
use mathlib.Core.List.{List}
use Prim.Native.Nat.{ℕ}
use borrow.Author.Tests.{eq-eqb, ne_eqb}
use lib.Dec.{eqb}
use lib.ListN.{length}
use Rattle.check_verdicts.specs.Verdicts.{Fault, Verdict, verdict_by, refused, no_fault, unless_refused}
use Rattle.check_refusals.specs.Refusals.{says}
use Rattle.check_refusals.specs.declared.Refusal.{Refusal}
use Rattle.check_side.specs.Sides.{code_checks}
use Rattle.check_verdicts.proofs.Verdicts.{settle}
use Rattle.check_side.proofs.Sides.{codes_settle}
use Rattle.cost_bytes.specs.SideBytes.{cost_of_fields}
use Rattle.block_record.specs.RecordBytes.{recorded_of, sound_record}
use Rattle.block_record.proofs.is_sound.Goals as goal

module _ (bytes : List ℕ) where
  other_length : (length bytes ≡ 24 → ⊥) → false ≡ sound_record bytes
  unfolding sound_record
  other_length h = simp (ne_eqb _ _ h)

  -- whether a verdict on the cost is that of the bits
  abbrev by_bits : Verdict ℕ → Bool
  by_bits v = unless_refused v (λ cost. eqb cost (recorded_of bytes).bits) false

  abbrev codes : Verdict (Unit {0})
  codes = code_checks (recorded_of bytes).duration (recorded_of bytes).bandwidth no_fault

  -- the bits compared with a cost, where there is one
  compared : (same : Bool) (r : Result ℕ Refusal) → MatchResult r (λ cost. same ≡ eqb cost (recorded_of bytes).bits) (λ _. same ≡ false) → same ≡ by_bits (verdict_by says r)
  compared same (Ok cost) e = e
  compared same (Err why) e = e

  module _ (whole : length bytes ≡ 24) where
    codes_first : (v : Verdict (Unit {0})) → v ≡ codes → by_bits (settle v (cost_of_fields (recorded_of bytes).side)) ≡ sound_record bytes
    unfolding sound_record
    codes_first v e =
        ap (λ (v : Verdict (Unit {0})). by_bits (settle v (cost_of_fields (recorded_of bytes).side))) e
        ∙ ap by_bits (sym (codes_settle (recorded_of bytes).duration (recorded_of bytes).bandwidth (cost_of_fields (recorded_of bytes).side)))
        ∙ simp (eq-eqb _ _ whole)

    codes_fail : (why : Fault) → refused why ≡ codes → false ≡ sound_record bytes
    codes_fail why e = codes_first (refused why) e

    -- what is left once they find no fault
    cost_decides : no_fault ≡ codes → (v : Verdict ℕ) → v ≡ cost_of_fields (recorded_of bytes).side → by_bits v ≡ sound_record bytes
    cost_decides e v f = ap by_bits f ∙ codes_first no_fault e

    -- what the checks of the codes answered
    module _ (r : Result (Unit {0}) Refusal) (answer : verdict_by says r ≡ codes) where
      not_sound : is_ok r ≡ false → false ≡ sound_record bytes
      not_sound = cases r answer
        where
          cases : (r : Result (Unit {0}) Refusal) → verdict_by says r ≡ codes → is_ok r ≡ false → false ≡ sound_record bytes
          cases (Ok u) e h = cc
          cases (Err why) e h = codes_fail (says why) e

      bits_decide : is_ok r ≡ true → (v : Verdict ℕ) → v ≡ cost_of_fields (recorded_of bytes).side → by_bits v ≡ sound_record bytes
      bits_decide = cases r answer
        where
          cases : (r : Result (Unit {0}) Refusal) → verdict_by says r ≡ codes → is_ok r ≡ true → (v : Verdict ℕ) → v ≡ cost_of_fields (recorded_of bytes).side → by_bits v ≡ sound_record bytes
          cases (Ok u) e h v f = cost_decides e v f
          cases (Err why) e h v f = cc

pub returns-then-bytes-ne24 : goal.returns-then-bytes-ne24
returns-then-bytes-ne24 c = other_length c.args.bytes.now c.if-bytes-ne24.true

pub returns-then-is_ok : goal.returns-then-is_ok
returns-then-is_ok c =
    let bytes = c.args.bytes.now in
    let passed = sym c.is_ok.ensures.value ∙ c.if-is_ok.true in
    let m : MatchResult c.cost.result (λ x. c.is_ok_and.result ≡ eqb x (recorded_of bytes).bits) (λ _. c.is_ok_and.result ≡ false) = search rules in
    compared bytes c.is_ok_and.result c.cost.result m ∙ bits_decide bytes c.if-bytes-ne24.false c.check_codes.result c.check_codes.ensures passed _ c.cost.ensures.answer

pub returns-else-is_ok : goal.returns-else-is_ok
returns-else-is_ok c =
    let failed = sym c.is_ok.ensures.value ∙ c.if-is_ok.false in
    c.if-is_ok.false ∙ not_sound c.args.bytes.now c.if-bytes-ne24.false c.check_codes.result c.check_codes.ensures failed
