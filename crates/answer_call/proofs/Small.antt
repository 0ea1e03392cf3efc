-- What an answer holds is small. A place is at most 15. Where the caller's lists hold bytes, each of an answer's four numbers fits its 16 bits.
use mathlib.Core.Bool.{Bool, ◌||◌, not}
use mathlib.Core.List.{List}
use Prim.Native.Nat.{ℕ, ◌^◌, ◌≤◌, ◌<◌}
use native.Mathlib.Omega.{arith}
use lib.Dec.{ltb, eqb}
use lib.Ieee.{Float}
use lib.ListN.{length, get_or}
use Rattle.check_verdicts.specs.Verdicts.{numbered, placed, Verdict, accepted, refused, no_fault, check, place_of, of_fault, no_bits, its_bits}
use Rattle.check_refusals.specs.Refusals.{says}
use Rattle.check_refusals.specs.declared.Refusal.{Refusal}
use Rattle.check_refusals.proofs.Eight.{of_eight}
use Rattle.check_verdicts.proofs.Verdicts.{check_by}
use Rattle.check_side.proofs.Checks.{sides_by}
use Rattle.cost_call.specs.Cost.{cost_of}
use Rattle.cost_call.proofs.Costs.{cost_by, counted_at_most}
use Rattle.row_durations.specs.Durations.{duration_of}
use Rattle.row_bands.specs.Bands.{row_of, last_stop}
use Rattle.check_frame.proofs.Frames.{frames_by}
use Rattle.check_line.specs.LineChecks.{line_checks, line_call_checks, line_says}
use Rattle.check_line.specs.declared.LineRefusal.{LineRefusal}
use Rattle.check_line.specs.declared.LineRefusal.TheVariants.{Call, Line, OutputLength}
use Rattle.call_decode.specs.Decoder.{decode_checks}
use Rattle.call_encode.specs.Encoder.{encode_verdict, bits_verdict, weighting_in}
use Rattle.call_encode.proofs.Reported.{reported_bits_at_most}
use Rattle.answer_call.specs.Answers.{answer_for}
use Rattle.answer_call.specs.declared.Answer.{Answer}

-- ---- places

pub cost_place : (weighting filters : ℕ) (orders indices : List ℕ) → of_fault place_of (cost_of weighting filters orders indices) ≤ 15
cost_place weighting filters orders indices =
    cost_by (λ v. of_fault place_of v ≤ 15) weighting filters orders indices
    (omega arith)
    (omega arith)
    (λ place h. omega (arith, h))
    (λ place h. omega (arith, h))
    (omega arith)
    (λ sound. omega arith)

-- what holds of each refusal that the decode call can give, and of an accepted one, holds of what it says
decode_by : (P : Verdict (Unit {0}) → Type 0) (duration bandwidth filters : ℕ) (orders indices : List ℕ) (lines : ℕ)
    → P (refused (numbered 1)) → P (refused (numbered 2)) → P (refused (numbered 3)) → P (refused (numbered 4)) → P (refused (numbered 5))
    → ((place : ℕ) → place < 2 → P (refused (placed 6 place (get_or orders place 0))))
    → ((place : ℕ) → place < 16 → P (refused (placed 7 place (get_or indices place 0))))
    → P no_fault → P (decode_checks duration bandwidth filters orders indices lines)
unfolding decode_checks
decode_by P duration bandwidth filters orders indices lines stops1 stops2 stops3 stops4 stops5 stops6 stops7 goes =
    frames_by P duration bandwidth lines _ stops1 stops2 stops3 (sides_by P filters orders indices no_fault stops4 stops5 stops6 stops7 (λ sound. goes))

pub decode_place : (duration bandwidth filters : ℕ) (orders indices : List ℕ) (lines : ℕ)
    → of_fault place_of (decode_checks duration bandwidth filters orders indices lines) ≤ 15
decode_place duration bandwidth filters orders indices lines =
    decode_by (λ v. of_fault place_of v ≤ 15) duration bandwidth filters orders indices lines
    (omega arith)
    (omega arith)
    (omega arith)
    (omega arith)
    (omega arith)
    (λ place h. omega (arith, h))
    (λ place h. omega (arith, h))
    (omega arith)

pub encode_place : (duration bandwidth bits : ℕ) (flag : Bool) (lines : List Float) → of_fault place_of (bits_verdict (encode_verdict duration bandwidth bits flag lines)) ≤ 15
unfolding encode_verdict
encode_place duration bandwidth bits flag lines =
    frames_by (λ v. of_fault place_of (bits_verdict v) ≤ 15) duration bandwidth (length lines) _ (omega arith) (omega arith) (omega arith) (omega arith)

-- what holds of each refusal that a decode call at a line can give, and of an accepted one, holds of what it says
line_by : (P : Verdict (Unit {0}) → Type 0) (duration bandwidth filters : ℕ) (orders indices : List ℕ) (lines n output : ℕ)
    → P (refused (numbered 1)) → P (refused (numbered 2)) → P (refused (numbered 3)) → P (refused (numbered 4)) → P (refused (numbered 5))
    → ((place : ℕ) → place < 2 → P (refused (placed 6 place (get_or orders place 0))))
    → ((place : ℕ) → place < 16 → P (refused (placed 7 place (get_or indices place 0))))
    → P (refused (numbered 16)) → P (refused (numbered 17)) → P no_fault → P (line_call_checks duration bandwidth filters orders indices lines n output)
unfolding line_call_checks
line_by P duration bandwidth filters orders indices lines n output stops1 stops2 stops3 stops4 stops5 stops6 stops7 stops16 stops17 goes =
    let row = row_of (duration_of duration) bandwidth in
    let other_length = not (eqb output lines) in
    frames_by P duration bandwidth lines _ stops1 stops2 stops3
    (sides_by P filters orders indices (line_checks row lines n output no_fault) stops4 stops5 stops6 stops7 (λ sound.
    check_by P 16 (ltb n row.first.start || ltb (last_stop row) n) (check 17 other_length no_fault) stops16 (λ e.
    check_by P 17 other_length no_fault stops17 (λ e. goes))))

pub line_place : (duration bandwidth filters : ℕ) (orders indices : List ℕ) (lines n output : ℕ)
    → of_fault place_of (line_call_checks duration bandwidth filters orders indices lines n output) ≤ 15
line_place duration bandwidth filters orders indices lines n output =
    line_by (λ v. of_fault place_of v ≤ 15) duration bandwidth filters orders indices lines n output
    (omega arith)
    (omega arith)
    (omega arith)
    (omega arith)
    (omega arith)
    (λ place h. omega (arith, h))
    (λ place h. omega (arith, h))
    (omega arith)
    (omega arith)
    (omega arith)

-- ---- no refusal is given as an accepted call

pub refused_not_0 : {A : Type 0} (bits : A → ℕ) (why : Refusal) → 0 < (answer_for bits (refused (says why))).refusal
refused_not_0 bits why = (of_eight why).has_number

pub line_not_0 : {A : Type 0} (bits : A → ℕ) (why : LineRefusal) → 0 < (answer_for bits (refused (line_says why))).refusal
line_not_0 bits (Call why) = refused_not_0 bits why
line_not_0 bits Line = omega arith
line_not_0 bits OutputLength = omega arith

-- ---- all four numbers

-- the refusals of a call have numbers up to a highest one
pub record Small (highest : ℕ) (answer : Answer) : Type 0 where
  pub small_refusal : answer.refusal ≤ highest
  pub small_place : answer.place ≤ 15
  pub small_found : answer.found ≤ 255
  pub few_bits : answer.bits ≤ 168

-- so each fits its 16 bits
pub fits : (highest : ℕ) → highest ≤ 17 → (answer : Answer) → Small highest answer → (answer.refusal < 2 ^ 16) × (answer.place < 2 ^ 16) × (answer.found < 2 ^ 16) × (answer.bits < 2 ^ 16)
fits highest h answer s = (omega (arith, s.small_refusal), omega (arith, s.small_place), omega (arith, s.small_found), omega (arith, s.few_bits))

module _ {A : Type 0} (highest : ℕ) (bits : A → ℕ) where
  by_number : (number : ℕ) → number ≤ highest → Small highest (answer_for bits (refused (numbered number)))
  by_number number h = record { small_refusal = h; small_place = omega arith; small_found = omega arith; few_bits = omega arith }

  at_place : (number place found : ℕ) → number ≤ highest → place ≤ 15 → found ≤ 255 → Small highest (answer_for bits (refused (placed number place found)))
  at_place number place found n p f = record { small_refusal = n; small_place = p; small_found = f; few_bits = omega arith }

  with_bits : (a : A) → bits a ≤ 168 → Small highest (answer_for bits (accepted a))
  with_bits a h = record { small_refusal = omega arith; small_place = omega arith; small_found = omega arith; few_bits = h }

-- of lists that hold bytes
module _ (orders indices : List ℕ) (order-bytes : (i : ℕ) → get_or orders i 0 ≤ 255) (index-bytes : (i : ℕ) → get_or indices i 0 ≤ 255) where
  pub cost_small : (weighting filters : ℕ) → Small 8 (answer_for its_bits (cost_of weighting filters orders indices))
  cost_small weighting filters =
      cost_by (λ v. Small 8 (answer_for its_bits v)) weighting filters orders indices
      (by_number 8 its_bits 4 (omega arith))
      (by_number 8 its_bits 5 (omega arith))
      (λ place h. at_place 8 its_bits 6 place _ (omega arith) (omega (arith, h)) (order-bytes place))
      (λ place h. at_place 8 its_bits 7 place _ (omega arith) (omega (arith, h)) (index-bytes place))
      (by_number 8 its_bits 8 (omega arith))
      (λ sound. with_bits 8 its_bits _ (counted_at_most weighting filters orders indices sound))

  pub decode_small : (duration bandwidth filters lines : ℕ) → Small 8 (answer_for no_bits (decode_checks duration bandwidth filters orders indices lines))
  decode_small duration bandwidth filters lines =
      decode_by (λ v. Small 8 (answer_for no_bits v)) duration bandwidth filters orders indices lines
      (by_number 8 no_bits 1 (omega arith))
      (by_number 8 no_bits 2 (omega arith))
      (by_number 8 no_bits 3 (omega arith))
      (by_number 8 no_bits 4 (omega arith))
      (by_number 8 no_bits 5 (omega arith))
      (λ place h. at_place 8 no_bits 6 place _ (omega arith) (omega (arith, h)) (order-bytes place))
      (λ place h. at_place 8 no_bits 7 place _ (omega arith) (omega (arith, h)) (index-bytes place))
      (with_bits 8 no_bits tt (omega arith))

  pub line_small : (duration bandwidth filters lines n output : ℕ) → Small 17 (answer_for no_bits (line_call_checks duration bandwidth filters orders indices lines n output))
  line_small duration bandwidth filters lines n output =
      line_by (λ v. Small 17 (answer_for no_bits v)) duration bandwidth filters orders indices lines n output
      (by_number 17 no_bits 1 (omega arith))
      (by_number 17 no_bits 2 (omega arith))
      (by_number 17 no_bits 3 (omega arith))
      (by_number 17 no_bits 4 (omega arith))
      (by_number 17 no_bits 5 (omega arith))
      (λ place h. at_place 17 no_bits 6 place _ (omega arith) (omega (arith, h)) (order-bytes place))
      (λ place h. at_place 17 no_bits 7 place _ (omega arith) (omega (arith, h)) (index-bytes place))
      (by_number 17 no_bits 16 (omega arith))
      (by_number 17 no_bits 17 (omega arith))
      (with_bits 17 no_bits tt (omega arith))

pub encode_small : (duration bandwidth bits : ℕ) (flag : Bool) (lines : List Float) → Small 8 (answer_for its_bits (bits_verdict (encode_verdict duration bandwidth bits flag lines)))
unfolding encode_verdict
encode_small duration bandwidth bits flag lines =
    frames_by (λ v. Small 8 (answer_for its_bits (bits_verdict v))) duration bandwidth (length lines) _
    (by_number 8 its_bits 1 (omega arith))
    (by_number 8 its_bits 2 (omega arith))
    (by_number 8 its_bits 3 (omega arith))
    (with_bits 8 its_bits _ (reported_bits_at_most (row_of (duration_of duration) bandwidth) lines flag (weighting_in duration bits)))
