-- One byte changed, anywhere, to anything else: the block that holds it is refused with 10, and the records of the blocks before it are
-- given.
use mathlib.Core.Path.{◌≡◌, refl, sym, ◌∙◌, ap}
use mathlib.Core.Bool.{Bool, true, false, ◌&&◌}
use mathlib.Core.List.{List, [], ◌∷◌, ◌++◌, map}
use Prim.Native.Nat.{ℕ, zero, suc, ◌+◌, ◌-◌, ◌/◌, ◌≤◌, ◌<◌}
use native.Mathlib.Nat.{lt_irrefl}
use native.Mathlib.Decide.{dec_lt}
use native.Mathlib.Omega.{arith}
use borrow.Author.Tests.{ne_eqb}
use lib.Dec.{eqb}
use lib.ListN.{length, get_or, take, drop, set, length-take, length-drop, length-set}
use lib.Seq.{take-take, take-set-le, take-set-lt, drop-set-add, get_or-set_same, get_or-set_other, get_or-take, get_or-drop}
use Rattle.law_lists.specs.Counted.{total}
use Rattle.law_lists.specs.Portions.{portions}
use Rattle.law_lists.proofs.Portions.{portions_first}
use Rattle.check_verdicts.specs.Verdicts.{numbered, Verdict, accepted, refused}
use Rattle.block_numbers.specs.Words.{word_at}
use Rattle.block_numbers.specs.Sums.{sums_of}
use Rattle.block_parts.specs.Parts.{records_in, sums_right, header_right, number_right, fill_right}
use Rattle.block_check.specs.Blocks.{block_verdict, read_verdict}
use Rattle.block_check.proofs.Verdicts.{AcceptedBlock, tested, some_bytes}
use Rattle.file_narration.specs.Files.{whole, refused_at, Outcome, stopped_at, before, go_on, outcome_from, reading}
use Rattle.file_narration.proofs.Cuts.{joined}
use Rattle.file_narration.proofs.OnlyBlock.{AreBytes, plain_right, weighted_right, first_bytes, rest_bytes, cut_of, outcome_first, first_whole, first_accepted}

-- ---- a block

-- what a store makes of a total
total_set : (xs : List ℕ) (place value : ℕ) → place < length xs → total (set xs place value) + get_or xs place 0 ≡ total xs + value
unfolding total
total_set [] place value h = absurd (omega arith)
total_set (x ∷ xs) zero value h = omega arith
total_set (x ∷ xs) (suc place) value h = omega (arith, total_set xs place value (omega arith))

never : (b : Bool) → b && false ≡ false
never true = refl
never false = refl

module _ (block : List ℕ) (place value : ℕ) (bytes : AreBytes block) (is : length block ≡ 512) (there : place < 512) (small : value < 256)
    (other : value ≡ get_or block place 0 → ⊥) where
  abbrev changed : List ℕ
  changed = set block place value

  elsewhere : (p : ℕ) → (p ≡ place → ⊥) → get_or (set block place value) p 0 ≡ get_or block p 0
  elsewhere p d = get_or-set_other block place p value 0 d

  here : get_or (set block place value) place 0 ≡ value
  here = get_or-set_same block place value 0 (omega arith)

  -- a word that does not hold the place is as it was, and one that does is not
  same_word : (p : ℕ) → (p ≡ place → ⊥) → (suc p ≡ place → ⊥) → word_at p (set block place value) ≡ word_at p block
  same_word p d e = omega (arith, elsewhere p d, elsewhere (suc p) e)

  other_word : (p : ℕ) → p ≤ place → place ≤ suc p → word_at p (set block place value) ≡ word_at p block → ⊥
  other_word p h k e = elim (dec_lt p place) [
    | yes high ↦
        let at : suc p ≡ place = omega arith in
        let now : get_or (set block place value) (suc p) 0 ≡ value = ap (λ (n : ℕ). get_or (set block place value) n 0) at ∙ here in
        let was : get_or block (suc p) 0 ≡ get_or block place 0 = ap (λ (n : ℕ). get_or block n 0) at in
        let low : get_or (set block place value) p 0 ≡ get_or block p 0 = elsewhere p (λ q. lt_irrefl p (omega arith)) in
        other (omega arith)
    | no low ↦
        let at : p ≡ place = omega arith in
        let now : get_or (set block place value) p 0 ≡ value = ap (λ (n : ℕ). get_or (set block place value) n 0) at ∙ here in
        let was : get_or block p 0 ≡ get_or block place 0 = ap (λ (n : ℕ). get_or block n 0) at in
        let high : get_or (set block place value) (suc p) 0 ≡ get_or block (suc p) 0 = elsewhere (suc p) (λ q. lt_irrefl p (omega arith)) in
        other (omega arith)
  ]

  -- a plain sum that is not what it says, or a weighted one
  plain_wrong : (word_at 508 (set block place value) ≡ (sums_of (take 508 (set block place value))).plain → ⊥) → sums_right (set block place value) ≡ false
  unfolding sums_right
  plain_wrong h = ap (λ (b : Bool). b && eqb (word_at 510 changed) (sums_of (take 508 changed)).weighted) (ne_eqb _ _ h)

  weighted_wrong : (word_at 510 (set block place value) ≡ (sums_of (take 508 (set block place value))).weighted → ⊥) → sums_right (set block place value) ≡ false
  unfolding sums_right
  weighted_wrong h = ap (λ (b : Bool). eqb (word_at 508 changed) (sums_of (take 508 changed)).plain && b) (ne_eqb _ _ h) ∙ never (eqb (word_at 508 changed) (sums_of (take 508 changed)).plain)

  -- a changed byte changes the plain sum by less than 256, so never by a multiple of 65521
  in_body : place < 508 → word_at 508 block ≡ (sums_of (take 508 block)).plain → word_at 508 (set block place value) ≡ (sums_of (take 508 (set block place value))).plain → ⊥
  unfolding sums_of
  in_body summed was now =
      let body : List ℕ = take 508 block in
      let long : length (take 508 block) ≡ 508 = omega (arith, length-take 508 block) in
      let sums : total (set (take 508 block) place value) + get_or (take 508 block) place 0 ≡ total (take 508 block) + value = total_set (take 508 block) place value (omega arith) in
      let its : get_or (take 508 block) place 0 ≡ get_or block place 0 = get_or-take 508 block place 0 summed in
      let same : word_at 508 (set block place value) ≡ word_at 508 block = same_word 508 (λ q. lt_irrefl place (omega arith)) (λ q. lt_irrefl place (omega arith)) in
      let now-sum : total (take 508 (set block place value)) ≡ total (set (take 508 block) place value) = ap total (take-set-lt 508 block place value summed) in
      other (omega (arith, bytes place))

  pub sums_noticed : sums_right block ≡ true → sums_right (set block place value) ≡ false
  unfolding sums_right
  sums_noticed e = elim (dec_lt place 508) [
    | yes summed ↦ plain_wrong (in_body summed (plain_right block e))
    | no beyond ↦
        let same : take 508 changed ≡ take 508 block = take-set-le 508 block place value (omega arith) in elim (dec_lt place 510) [
          | yes first ↦
              plain_wrong (λ q. other_word 508 (omega arith) (omega arith) (q ∙ ap (λ (b : List ℕ). (sums_of b).plain) same ∙ sym (plain_right block e)))
          | no second ↦
              weighted_wrong (λ q. other_word 510 (omega arith) (omega arith) (q ∙ ap (λ (b : List ℕ). (sums_of b).weighted) same ∙ sym (weighted_right block e)))
        ]
  ]

pub block_noticed : (number : ℕ) (block records : List ℕ) (place value : ℕ) → AreBytes block → length block ≡ 512 → AcceptedBlock number block records
    → place < 512 → value < 256 → (value ≡ get_or block place 0 → ⊥) → block_verdict number (set block place value) ≡ refused (numbered 10)
block_noticed number block records place value bytes is a there small other =
    let changed = set block place value in
    tested number changed (length-set block place value ∙ is) a.in_range false (header_right changed) (number_right number changed) (fill_right changed)
    (sums_noticed block place value bytes is there small other a.sums) refl refl refl

-- ---- a file

-- what a change at a place leaves of a file's outcome, from block `number` on: the records of the blocks before it
abbrev noticed_at : ℕ → List ℕ → ℕ → Outcome
noticed_at number file place = record { given = joined (take (place / 512) (cut_of file)); end = refused_at (number + place / 512) (numbered 10) }

-- an accepted first block leaves the rest to those after it
going_on : (number : ℕ) (file : List ℕ) → 0 < length file → (records : List ℕ) → read_verdict number (take 512 file) ≡ accepted records
    → outcome_from read_verdict number (portions 512 file) ≡ before records (outcome_from read_verdict (suc number) (portions 512 (drop 512 file)))
going_on number file there records e =
    outcome_first number file there ∙ ap (λ (v : Verdict (List ℕ)). go_on number v (outcome_from read_verdict (suc number) (portions 512 (drop 512 file)))) e

-- in the first block
first_noticed : (number : ℕ) (file : List ℕ) (place value : ℕ) → AreBytes file → (there : 0 < length file) → (outcome_from read_verdict number (portions 512 file)).end ≡ whole
    → place < 512 → value < 256 → (value ≡ get_or file place 0 → ⊥)
    → outcome_from read_verdict number (portions 512 (set file place value)) ≡ stopped_at number (numbered 10)
first_noticed number file place value bytes there e here small other =
    let first = first_whole number file there e in
    let a = first_accepted number file there first.records first.took in
    let block = take 512 file in
    let is : length (take 512 file) ≡ 512 = omega (arith, a.long, length-take 512 file) in
    let changed = set file place value in
    let its : take 512 (set file place value) ≡ set (take 512 file) place value = take-set-lt 512 file place value here in
    let still : 0 < length (set file place value) = omega (arith, length-set file place value) in
    let noticed = block_noticed number block first.records place value (first_bytes 512 file bytes) is a here small (λ q. other (q ∙ get_or-take 512 file place 0 here)) in
    outcome_first number changed still
    ∙ ap (λ (v : Verdict (List ℕ)). go_on number v (outcome_from read_verdict (suc number) (portions 512 (drop 512 changed))))
    (some_bytes number (take 512 changed) (omega (arith, length-take 512 changed)) ∙ ap (block_verdict number) (take-take 512 512 changed (omega arith) ∙ its) ∙ noticed)

-- the same in other words
refused_alike : {given other : List ℕ} {number block : ℕ} → given ≡ other → number ≡ block
    → ◌≡◌ {A = Outcome} (record { given = given; end = refused_at number (numbered 10) }) (record { given = other; end = refused_at block (numbered 10) })
refused_alike p q = cc

noticed_in : (many number : ℕ) (file : List ℕ) (place value : ℕ) → length file ≤ many → AreBytes file → (outcome_from read_verdict number (portions 512 file)).end ≡ whole
    → place < length file → value < 256 → (value ≡ get_or file place 0 → ⊥)
    → outcome_from read_verdict number (portions 512 (set file place value)) ≡ noticed_at number file place
noticed_in zero number file place value h bytes e there small other = absurd (omega arith)
noticed_in (suc many) number file place value h bytes e there small other = elim (dec_lt place 512) [
  | yes here ↦
      let none : place / 512 ≡ 0 = omega arith in
      first_noticed number file place value bytes (omega arith) e here small other
      ∙ refused_alike (sym (ap (λ (n : ℕ). joined (take n (cut_of file))) none)) (omega arith)
  | no later ↦
      let first = first_whole number file (omega arith) e in
      let changed = set file place value in
      let back = place - 512 in
      let at : 512 + (place - 512) ≡ place = omega arith in
      let still : 0 < length (set file place value) = omega (arith, length-set file place value) in
      let same : take 512 (set file place value) ≡ take 512 file = take-set-le 512 file place value (omega arith) in
      let rest : drop 512 (set file place value) ≡ set (drop 512 file) (place - 512) value =
      ap (λ (n : ℕ). drop 512 (set file n value)) (sym at) ∙ drop-set-add 512 file (place - 512) value
      in
      let further = noticed_in many (suc number) (drop 512 file) (place - 512) value (omega (arith, length-drop 512 file)) (rest_bytes 512 file bytes) first.went_on
      (omega (arith, length-drop 512 file)) small (λ q. other (q ∙ get_or-drop 512 file (place - 512) 0 ∙ ap (λ (n : ℕ). get_or file n 0) at))
      in
      let its = (first_accepted number file (omega arith) first.records first.took).given in
      let blocks : place / 512 ≡ suc ((place - 512) / 512) = omega arith in
      let cut : cut_of file ≡ records_in (take 512 file) ∷ cut_of (drop 512 file) = ap (map records_in) (portions_first 512 (omega arith) file (omega arith)) in
      going_on number changed still first.records (ap (read_verdict number) same ∙ first.took)
      ∙ ap (λ (f : List ℕ). before first.records (outcome_from read_verdict (suc number) (portions 512 f))) rest
      ∙ ap (before first.records) further
      ∙ refused_alike
      (ap (λ (l : List ℕ). l ++ joined (take ((place - 512) / 512) (cut_of (drop 512 file)))) its
      ∙ sym (ap (λ (n : ℕ). joined (take n (cut_of file))) blocks ∙ ap (λ (c : List (List ℕ)). joined (take (suc ((place - 512) / 512)) c)) cut)) (omega arith)
]

-- whatever file is read whole
pub noticed : (file : List ℕ) (place value : ℕ) → AreBytes file → (reading file).end ≡ whole → place < length file → value < 256 → (value ≡ get_or file place 0 → ⊥)
    → reading (set file place value) ≡ record { given = joined (take (place / 512) (cut_of file)); end = refused_at (place / 512) (numbered 10) }
noticed file place value bytes e there small other =
    noticed_in (length file) 0 file place value (omega arith) bytes e there small other ∙ refused_alike refl (omega arith)
