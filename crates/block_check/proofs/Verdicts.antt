-- Laws of the verdict on a block: what each test that fails makes of it, what is left where none does, and what is known of a block that is
-- accepted.
use mathlib.Core.Path.{◌≡◌, refl, sym, ◌∙◌, ap}
use mathlib.Core.Bool.{Bool, true, false, ◌&&◌, ◌||◌, not}
use mathlib.Core.List.{List, [], ◌∷◌}
use Prim.Native.Nat.{ℕ, ◌+◌, ◌*◌, ◌≤◌, ◌<◌}
use native.Mathlib.Decide.{dec_lt}
use native.Mathlib.Omega.{arith}
use borrow.Author.Tests.{lt-ltb, le-ltb, ltb-false}
use lib.Dec.{ltb}
use lib.ListN.{length, take, length-take}
use Rattle.law_lists.specs.Places.{part}
use Rattle.law_lists.proofs.Parts.{part_of_first}
use Rattle.check_verdicts.specs.Verdicts.{Fault, Verdict, numbered, accepted, refused, check, on_accepted}
use Rattle.check_verdicts.proofs.Verdicts.{check_by, not_accepted}
use Rattle.block_parts.specs.Parts.{count_of, count_in, records_in, sums_right, header_right, number_right, fill_right, sound_records, block_bytes}
use Rattle.block_check.specs.Blocks.{block_verdict, read_verdict, write_verdict}
use Rattle.block_check.specs.Told.{count_said}
use Rattle.block_parts.proofs.Laid.{block_count}
use Rattle.block_parts.proofs.Counted.{few_records, some_records, its_count}

module _ (number : ℕ) (block : List ℕ) where
  -- 12, where everything before it is right
  abbrev pub records_verdict : Verdict (List ℕ)
  records_verdict = check 12 (not (sound_records (records_in block))) (accepted (records_in block))

  -- 10 to 12, by what the tests say
  abbrev pub by_tests : Bool → Bool → Bool → Bool → Verdict (List ℕ)
  by_tests sums header right fill = check 10 (not sums) (check 11 (not (header && right && fill)) records_verdict)

  module _ (whole : length block ≡ 512) (few : number ≤ 65535) where
    pub tested : (sums header right fill : Bool) → sums_right block ≡ sums → header_right block ≡ header → number_right number block ≡ right → fill_right block ≡ fill
        → block_verdict number block ≡ by_tests sums header right fill
    unfolding block_verdict
    tested sums header right fill s h n f =
        let long : 512 ≤ length block = omega arith in
        rw (le-ltb _ _ long, le-ltb _ _ few, s, h, n, f)

  pub too_short : length block < 512 → block_verdict number block ≡ refused (numbered 9)
  unfolding block_verdict
  too_short h = rw (lt-ltb _ _ h)

  pub too_many : length block ≡ 512 → 65535 < number → block_verdict number block ≡ refused (numbered 9)
  unfolding block_verdict
  too_many whole h =
      let long : 512 ≤ length block = omega arith in
      rw (le-ltb _ _ long, lt-ltb _ _ h)

-- bytes that are some are a block's
pub some_bytes : (number : ℕ) (bytes : List ℕ) → 0 < length bytes → read_verdict number bytes ≡ block_verdict number (take 512 bytes)
unfolding read_verdict
some_bytes number [] h = absurd (omega arith)
some_bytes number (byte ∷ bytes) h = refl

pub no_bytes : (number : ℕ) (bytes : List ℕ) → length bytes ≡ 0 → read_verdict number bytes ≡ accepted []
unfolding read_verdict
no_bytes number [] h = refl
no_bytes number (byte ∷ bytes) h = absurd (omega arith)

pub short_bytes : (number : ℕ) (bytes : List ℕ) → 0 < length bytes → length bytes < 512 → read_verdict number bytes ≡ refused (numbered 9)
short_bytes number bytes some few = some_bytes number bytes some ∙ too_short number (take 512 bytes) (omega (arith, length-take 512 bytes))

pub past_bytes : (number : ℕ) (bytes : List ℕ) → 512 ≤ length bytes → 65535 < number → read_verdict number bytes ≡ refused (numbered 9)
past_bytes number bytes long past = some_bytes number bytes (omega arith) ∙ too_many number (take 512 bytes) (omega (arith, length-take 512 bytes)) past

-- ---- a block that is accepted

pub record AcceptedBlock (number : ℕ) (block records : List ℕ) : Type 0 where
  pub long : 512 ≤ length block
  pub in_range : number ≤ 65535
  pub sums : sums_right block ≡ true
  pub header : header_right block ≡ true
  pub right : number_right number block ≡ true
  pub fill : fill_right block ≡ true
  pub sound : sound_records (records_in block) ≡ true
  pub given : records ≡ records_in block

module _ (number : ℕ) (block records : List ℕ) where
  abbrev short : Bool
  short = ltb (length block) 512

  abbrev past : Bool
  past = ltb 65535 number

  pub accepted_block : block_verdict number block ≡ accepted records → AcceptedBlock number block records
  unfolding block_verdict
  accepted_block = cases short refl past refl (sums_right block) refl (header_right block) refl (number_right number block) refl (fill_right block) refl (sound_records (records_in block)) refl
    where
      cases : (a : Bool) → short ≡ a → (b : Bool) → past ≡ b → (s : Bool) → sums_right block ≡ s → (h : Bool) → header_right block ≡ h
          → (n : Bool) → number_right number block ≡ n → (f : Bool) → fill_right block ≡ f → (r : Bool) → sound_records (records_in block) ≡ r
          → check 9 (a || b) (check 10 (not s) (check 11 (not (h && n && f)) (check 12 (not r) (accepted (records_in block))))) ≡ accepted records
          → AcceptedBlock number block records
      cases true ea b eb s es h eh n en f ef r er e = not_accepted e
      cases false ea true eb s es h eh n en f ef r er e = not_accepted e
      cases false ea false eb false es h eh n en f ef r er e = not_accepted e
      cases false ea false eb true es false eh n en f ef r er e = not_accepted e
      cases false ea false eb true es true eh false en f ef r er e = not_accepted e
      cases false ea false eb true es true eh true en false ef r er e = not_accepted e
      cases false ea false eb true es true eh true en true ef false er e = not_accepted e
      cases false ea false eb true es true eh true en true ef true er e =
          record {
            long = ltb-false (length block) 512 ea;
            in_range = ltb-false 65535 number eb;
            sums = es;
            header = eh;
            right = en;
            fill = ef;
            sound = er;
            given = cc;
          }

-- and it is one: the tests are all there is
pub all_right : (number : ℕ) (block : List ℕ) → length block ≡ 512 → number ≤ 65535 → sums_right block ≡ true → header_right block ≡ true
    → number_right number block ≡ true → fill_right block ≡ true → sound_records (records_in block) ≡ true → block_verdict number block ≡ accepted (records_in block)
all_right number block whole few s h n f r =
    tested number block whole few true true true true s h n f ∙ ap (λ (b : Bool). check 12 (not b) (accepted (records_in block))) r

-- ---- what follows from an answer that counts records

-- of a refusal, what was refused
pub refused_too : {A B : Type 0} (made : A → B) (v : Verdict A) (why : Fault) → refused why ≡ on_accepted made v → v ≡ refused why
refused_too made (accepted a) why e = not_accepted e
refused_too made (refused fault) why e = cc

-- of what was accepted, what it was made of
pub record MadeFrom {A B : Type 0} (made : A → B) (v : Verdict A) (b : B) : Type 0 where
  pub of : A
  pub verdict : v ≡ accepted of
  pub made_of : b ≡ made of

pub accepted_too : {A B : Type 0} (made : A → B) (v : Verdict A) (b : B) → accepted b ≡ on_accepted made v → MadeFrom made v b
accepted_too made (accepted a) b e = record { of = a; verdict = refl; made_of = cc }
accepted_too made (refused fault) b e = not_accepted (sym e)

module _ (number : ℕ) (bytes : List ℕ) where
  -- of some records, that these are they
  pub record Given (count : ℕ) : Type 0 where
    pub long : 512 ≤ length bytes
    pub few : count ≤ 20
    pub verdict : read_verdict number bytes ≡ accepted (part 8 (8 + 24 * count) bytes)

  pub given_block : (count : ℕ) (records : List ℕ) → read_verdict number bytes ≡ accepted records → 0 < length bytes → count ≡ count_of records → Given count × (1 ≤ count)
  given_block count records e some n =
      let block : List ℕ = take 512 bytes in
      let a = accepted_block number block records (sym (some_bytes number bytes some) ∙ e) in
      let few = few_records block a.header in
      let many : count ≡ count_in block = n ∙ ap count_of a.given ∙ sym (its_count block a.long few) in
      let enough : 512 ≤ length bytes = omega (arith, a.long, length-take 512 bytes) in
      let its : records ≡ part 8 (8 + 24 * count) bytes =
      a.given ∙ ap (λ (k : ℕ). part 8 (8 + 24 * k) block) (sym many) ∙ part_of_first 8 (8 + 24 * count) 512 bytes (omega arith)
      in (record { long = enough; few = omega arith; verdict = e ∙ ap accepted its }, omega (arith, some_records block a.header))

  pub given_some : (count : ℕ) → accepted count ≡ on_accepted count_of (read_verdict number bytes) → 0 < count → Given count
  given_some count e some =
      let from = accepted_too count_of (read_verdict number bytes) count e in elim (dec_lt 0 (length bytes)) [
        | yes there ↦ (given_block count from.of from.verdict there from.made_of).0
        | no none ↦
            let empty : accepted from.of ≡ accepted [] = sym from.verdict ∙ no_bytes number bytes (omega arith) in
            let nothing : from.of ≡ [] = cc in
            absurd (omega (arith, from.made_of ∙ ap count_of nothing))
      ]

  pub given_none : accepted 0 ≡ on_accepted count_of (read_verdict number bytes) → read_verdict number bytes ≡ accepted []
  given_none e =
      let from = accepted_too count_of (read_verdict number bytes) 0 e in elim (dec_lt 0 (length bytes)) [
        | yes there ↦ absurd (omega (arith, (given_block 0 from.of from.verdict there from.made_of).1))
        | no none ↦ no_bytes number bytes (omega arith)
      ]

  -- at most twenty
  pub read_few : count_said (on_accepted count_of (read_verdict number bytes)) ≤ 20
  read_few = cases (read_verdict number bytes) refl
    where
      cases : (v : Verdict (List ℕ)) → read_verdict number bytes ≡ v → count_said (on_accepted count_of v) ≤ 20
      cases (refused fault) e = omega arith
      cases (accepted records) e = elim (dec_lt 0 (length bytes)) [
        | yes there ↦ (given_block (count_of records) records e there refl).0.few
        | no none ↦
            let empty : accepted records ≡ accepted [] = sym e ∙ no_bytes number bytes (omega arith) in
            let nothing : records ≡ [] = cc in
            omega (arith, ap count_of nothing)
      ]

-- ---- what writing gives

module _ (number : ℕ) where
  pub no_records : (records : List ℕ) → length records ≡ 0 → write_verdict number records ≡ accepted []
  unfolding write_verdict
  no_records [] h = refl
  no_records (byte ∷ bytes) h = absurd (omega arith)

  pub block_past : (records : List ℕ) → 0 < length records → 65535 < number → write_verdict number records ≡ refused (numbered 9)
  unfolding write_verdict
  block_past [] some h = absurd (omega arith)
  block_past (byte ∷ bytes) some h = rw (lt-ltb _ _ h)

  pub records_decide : (records : List ℕ) (sound : Bool) → 0 < length records → number ≤ 65535 → sound_records (take 480 records) ≡ sound
      → write_verdict number records ≡ check 12 (not sound) (accepted (block_bytes number (take 480 records)))
  unfolding write_verdict
  records_decide [] sound some few e = absurd (omega arith)
  records_decide (byte ∷ bytes) sound some few e = rw (le-ltb _ _ few, e)

  -- at most twenty records in a block
  pub write_few : (records : List ℕ) → count_said (on_accepted count_in (write_verdict number records)) ≤ 20
  unfolding write_verdict
  write_few [] = omega arith
  write_few (byte ∷ bytes) =
      check_by (λ v. count_said (on_accepted count_in v) ≤ 20) 9 (ltb 65535 number) _ (omega arith) (λ in_range.
      check_by (λ v. count_said (on_accepted count_in v) ≤ 20) 12 (not (sound_records (take 480 (byte ∷ bytes)))) _ (omega arith) (λ sound.
      omega (arith, block_count number (take 480 (byte ∷ bytes)), length-take 480 (byte ∷ bytes))))

  -- what is given where there are records is their block
  pub written_block : (records given : List ℕ) → 0 < length records → write_verdict number records ≡ accepted given
      → (number ≤ 65535) × (sound_records (take 480 records) ≡ true) × (given ≡ block_bytes number (take 480 records))
  written_block records given some e = elim (dec_lt 65535 number) [
    | yes over ↦ not_accepted (sym (block_past records some over) ∙ e)
    | no within ↦ by_test (omega arith) (sound_records (take 480 records)) refl
  ]
    where
      by_test : number ≤ 65535 → (b : Bool) → sound_records (take 480 records) ≡ b
          → (number ≤ 65535) × (sound_records (take 480 records) ≡ true) × (given ≡ block_bytes number (take 480 records))
      by_test few true s =
          let same : accepted (block_bytes number (take 480 records)) ≡ accepted given = sym (records_decide records true some few s) ∙ e in
          (few, s, cc)
      by_test few false s = not_accepted (sym (records_decide records false some few s) ∙ e)
