-- A block that is written is read back: its records, whatever sound ones they are, and nothing else.
use mathlib.Core.Path.{◌≡◌, refl, sym, ◌∙◌, ap}
use mathlib.Core.Bool.{true, ◌&&◌}
use mathlib.Core.List.{List, ◌++◌, append_assoc}
use Prim.Native.Nat.{ℕ, zero, suc, ◌+◌, ◌-◌, ◌*◌, ◌≤◌, ◌<◌}
use native.Mathlib.Decide.{dec_lt}
use native.Mathlib.Omega.{arith}
use borrow.Author.Tests.{eq-eqb, eqb-true, le-leb}
use lib.Dec.{eqb}
use lib.ListN.{length, get_or, take, drop, replicate, length-take, length-drop, length-replicate}
use lib.Seq.{take_at, drop_at, drop-drop, get_or-append-add}
use Rattle.law_lists.proofs.Every.{and_left, and_right}
use Rattle.check_verdicts.specs.Verdicts.{accepted}
use Rattle.check_limits.specs.LowestOver.{lowest_over}
use Rattle.std.specs.Prelude.{is_none}
use Rattle.block_numbers.specs.Words.{word_at}
use Rattle.block_numbers.specs.Sums.{sums_of}
use Rattle.block_record.specs.RecordBytes.{sound_record}
use Rattle.block_parts.specs.Parts.{count_of, count_in, fill_bytes, body_bytes, sum_bytes, block_bytes, records_in, fill_in, zeros, sums_right, header_right, number_right, fill_right, sound_records}
use Rattle.block_check.specs.Blocks.{block_verdict}
use Rattle.block_parts.proofs.Sound.{sound_first}
use Rattle.block_parts.proofs.Laid.{body_length, block_length, block_count}
use Rattle.block_check.proofs.Verdicts.{all_right}

-- ---- sound records are whole

sound_24 : (bytes : List ℕ) → sound_record bytes ≡ true → length bytes ≡ 24
unfolding sound_record
sound_24 bytes e = eqb-true (length bytes) 24 (and_left (eqb (length bytes) 24) _ e)

-- in some bytes, of no more than so many
whole_in : (many : ℕ) (bytes : List ℕ) → length bytes ≤ many → sound_records bytes ≡ true → 24 * count_of bytes ≡ length bytes
whole_in zero bytes h e = omega arith
whole_in (suc many) bytes h e = elim (dec_lt 0 (length bytes)) [
  | yes some ↦
      let both : sound_record (take 24 bytes) && sound_records (drop 24 bytes) ≡ true = sym (sound_first bytes some) ∙ e in
      let first = sound_24 (take 24 bytes) (and_left (sound_record (take 24 bytes)) (sound_records (drop 24 bytes)) both) in
      let rest = whole_in many (drop 24 bytes) (omega (arith, length-drop 24 bytes)) (and_right (sound_record (take 24 bytes)) (sound_records (drop 24 bytes)) both) in
      omega (arith, first, rest, length-take 24 bytes, length-drop 24 bytes)
  | no none ↦ omega arith
]

pub whole_records : (bytes : List ℕ) → sound_records bytes ≡ true → 24 * count_of bytes ≡ length bytes
whole_records bytes e = whole_in (length bytes) bytes (omega arith) e

-- ---- the parts of a block that is written

no_zero_over : (n place : ℕ) → is_none (lowest_over 0 place (replicate n 0)) ≡ true
unfolding lowest_over
no_zero_over zero place = refl
no_zero_over (suc n) place = no_zero_over n (suc place)

module _ (number : ℕ) (records : List ℕ) (few : length records ≤ 480) where
  abbrev block : List ℕ
  block = block_bytes number records

  abbrev body : List ℕ
  body = body_bytes number records

  -- after number and header
  after-header : drop 8 (block_bytes number records) ≡ records ++ (fill_bytes records ++ sum_bytes (body_bytes number records))
  unfolding block_bytes body_bytes
  after-header = append_assoc records (fill_bytes records) (sum_bytes body)

  its_body : take 508 (block_bytes number records) ≡ body_bytes number records
  unfolding block_bytes
  its_body = take_at body (sum_bytes body) 508 (body_length number records few)

  sum_byte : (n : ℕ) → get_or (block_bytes number records) (508 + n) 0 ≡ get_or (sum_bytes (body_bytes number records)) n 0
  unfolding block_bytes
  sum_byte n =
      ap (λ (k : ℕ). get_or (body ++ sum_bytes body) (k + n) 0) (sym (body_length number records few)) ∙ get_or-append-add body (sum_bytes body) n 0

  sums_right_lem : sums_right (block_bytes number records) ≡ true
  unfolding sums_right
  sums_right_lem =
      let plain : word_at 508 block ≡ (sums_of body).plain = omega (arith, sum_byte 0, sum_byte 1) in
      let weighted : word_at 510 block ≡ (sums_of body).weighted = omega (arith, sum_byte 2, sum_byte 3) in
      rw (its_body, eq-eqb _ _ plain, eq-eqb _ _ weighted)

  number_right_lem : number_right number (block_bytes number records) ≡ true
  unfolding block_bytes body_bytes
  number_right_lem = let its : word_at 0 block ≡ number = omega arith in eq-eqb _ _ its

  module _ (whole : 24 * count_of records ≡ length records) (some : 0 < length records) where
    header_right_lem : header_right (block_bytes number records) ≡ true
    unfolding header_right block_bytes body_bytes lowest_over
    header_right_lem =
        let low : 1 ≤ count_of records = omega arith in
        let high : count_of records ≤ 20 = omega arith in
        rw (le-leb _ _ low, le-leb _ _ high)

    its_records : records_in (block_bytes number records) ≡ records
    its_records =
        let many : 8 + 24 * count_in block - 8 ≡ length records = omega (arith, block_count number records) in
        ap (λ (n : ℕ). take n (drop 8 block)) many ∙ ap (take (length records)) after-header ∙ take_at records (fill_bytes records ++ sum_bytes body) (length records) refl

    its_fill : fill_in (block_bytes number records) ≡ fill_bytes records
    its_fill =
        let many : 8 + 24 * count_in block ≡ 8 + length records = omega (arith, block_count number records) in
        let left : 508 - (8 + length records) ≡ length (fill_bytes records) = omega (arith, length-replicate {A = ℕ} (500 - length records) 0) in
        ap (λ (n : ℕ). take (508 - n) (drop n block)) many
        ∙ ap (take (508 - (8 + length records)))
        (sym (drop-drop (length records) 8 block) ∙ ap (drop (length records)) after-header ∙ drop_at records (fill_bytes records ++ sum_bytes body) (length records) refl)
        ∙ ap (λ (n : ℕ). take n (fill_bytes records ++ sum_bytes body)) left
        ∙ take_at (fill_bytes records) (sum_bytes body) (length (fill_bytes records)) refl

    fill_right_lem : fill_right (block_bytes number records) ≡ true
    fill_right_lem = ap zeros its_fill ∙ no_zero_over (500 - length records) 0

-- what is written is accepted, and gives the records
pub block_back : (number : ℕ) (records : List ℕ) → number ≤ 65535 → 0 < length records → length records ≤ 480 → sound_records records ≡ true
    → block_verdict number (block_bytes number records) ≡ accepted records
block_back number records in-range some few sound =
    let whole = whole_records records sound in
    let its = its_records number records few whole some in
    all_right number (block_bytes number records) (block_length number records few) in-range (sums_right_lem number records few)
    (header_right_lem number records few whole some) (number_right_lem number records few) (fill_right_lem number records few whole some) (ap sound_records its ∙ sound)
    ∙ ap accepted its
