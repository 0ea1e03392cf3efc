-- A block that is accepted is the one that its number and its records are written as: no other byte is free. So a file of which reading refuses
-- nothing is determined by how its records are cut into blocks.
use mathlib.Core.Path.{◌≡◌, refl, sym, ◌∙◌, ap}
use mathlib.Core.Bool.{true, ◌&&◌}
use mathlib.Core.List.{List, [], ◌∷◌, ◌++◌, map, append_assoc}
use Prim.Native.Nat.{ℕ, zero, suc, ◌+◌, ◌-◌, ◌*◌, ◌/◌, ◌%◌, ◌≤◌, ◌<◌}
use native.Mathlib.Decide.{dec_lt}
use native.Mathlib.Omega.{arith}
use borrow.Author.Tests.{eqb-true}
use lib.Dec.{eqb, leb}
use lib.ListN.{length, get_or, take, drop, replicate, length-take, length-drop, length-replicate, get_or-replicate, take-append-drop, get_or-eq_default}
use lib.Seq.{ext_get_or, take-add, take-take, drop-drop, get_or-take, get_or-drop, take_all}
use Rattle.law_lists.specs.Places.{part}
use Rattle.law_lists.specs.Portions.{portions}
use Rattle.law_lists.proofs.Every.{and_left, and_right}
use Rattle.law_lists.proofs.Portions.{portions_first, portions_none}
use Rattle.check_verdicts.specs.Verdicts.{Verdict, accepted, refused}
use Rattle.std.specs.Prelude.{Option, Some, None, is_none}
use Rattle.check_limits.specs.LowestOver.{lowest_over}
use Rattle.check_limits.specs.declared.Over.{Over}
use Rattle.check_limits.proofs.Stands.{none_over}
use Rattle.block_numbers.specs.Words.{word_at, word_bytes}
use Rattle.block_numbers.specs.Sums.{sums_of}
use Rattle.block_parts.specs.Parts.{count_of, count_in, header_bytes, fill_bytes, body_bytes, sum_bytes, block_bytes, records_in, fill_in, zeros, sums_right, header_right}
use Rattle.block_check.specs.Blocks.{block_verdict, read_verdict}
use Rattle.block_check.proofs.Verdicts.{AcceptedBlock, accepted_block, some_bytes}
use Rattle.block_parts.proofs.Counted.{few_records, records_length, its_count}
use Rattle.file_narration.specs.Files.{whole, Outcome, go_on, outcome_from, reading, blocks_from}
use Rattle.file_narration.proofs.Cuts.{joined, no_members}

-- numbers that are bytes
abbrev pub AreBytes : List ℕ → Type 0
AreBytes xs = (i : ℕ) → get_or xs i 0 < 256

-- zeros are so many zeros
zeros_only : (xs : List ℕ) → zeros xs ≡ true → xs ≡ replicate (length xs) 0
zeros_only xs e =
    ext_get_or 0 xs (replicate (length xs) 0) (sym (length-replicate {A = ℕ} (length xs) 0))
    (λ i h.
    let none : get_or xs i 0 ≤ 0 = none_over 0 0 xs (nowhere (lowest_over 0 0 xs) e) i in
    let zero-there : get_or {A = ℕ} (replicate (length xs) 0) i 0 ≡ 0 = get_or-replicate {A = ℕ} (length xs) i 0 0 h in
    omega arith)
  where
    nowhere : (o : Option Over) → is_none o ≡ true → o ≡ None
    nowhere None e = refl
    nowhere (Some over) e = cc

first_four : (xs : List ℕ) → 4 ≤ length xs → take 4 xs ≡ get_or xs 0 0 ∷ get_or xs 1 0 ∷ get_or xs 2 0 ∷ get_or xs 3 0 ∷ []
first_four [] h = absurd (omega arith)
first_four (a ∷ []) h = absurd (omega arith)
first_four (a ∷ b ∷ []) h = absurd (omega arith)
first_four (a ∷ b ∷ c ∷ []) h = absurd (omega arith)
first_four (a ∷ b ∷ c ∷ d ∷ xs) h = refl

same_four : {a b c d e f g h : ℕ} → a ≡ e → b ≡ f → c ≡ g → d ≡ h → (a ∷ b ∷ c ∷ d ∷ []) ++ replicate 4 0 ≡ (e ∷ f ∷ g ∷ h ∷ []) ++ replicate 4 0
same_four p q r s = cc

-- what a right header holds after its count
edition : (block : List ℕ) → header_right block ≡ true → get_or block 3 0 ≡ 1
unfolding header_right
edition block e = eqb-true (get_or block 3 0) 1 (and_right (leb 1 (count_in block) && leb (count_in block) 20) (eqb (get_or block 3 0) 1) (and_left _ _ e))

four_zeros : (block : List ℕ) → length block ≡ 512 → header_right block ≡ true → part 4 8 block ≡ replicate 4 0
unfolding header_right
four_zeros block is e =
    zeros_only (part 4 8 block) (and_right (leb 1 (count_in block) && leb (count_in block) 20 && eqb (get_or block 3 0) 1) (zeros (part 4 8 block)) e)
    ∙ ap (λ (n : ℕ). replicate n 0) {x = length (part 4 8 block)} {y = 4} (omega (arith, length-take 4 (drop 4 block), length-drop 4 block))

-- what right sums are
pub plain_right : (block : List ℕ) → sums_right block ≡ true → word_at 508 block ≡ (sums_of (take 508 block)).plain
unfolding sums_right
plain_right block e = eqb-true _ _ (and_left _ _ e)

pub weighted_right : (block : List ℕ) → sums_right block ≡ true → word_at 510 block ≡ (sums_of (take 508 block)).weighted
unfolding sums_right
weighted_right block e = eqb-true _ _ (and_right (eqb (word_at 508 block) (sums_of (take 508 block)).plain) _ e)

module _ (number : ℕ) (block records : List ℕ) (bytes : AreBytes block) (is : length block ≡ 512) (a : AcceptedBlock number block records) where
  few : count_in block ≤ 20
  few = few_records block a.header

  its_length : length (records_in block) ≡ 24 * count_in block
  its_length = records_length block a.long few

  -- number and header
  its_header : take 8 block ≡ word_bytes number ++ header_bytes (count_of (records_in block))
  its_header =
      let its : word_at 0 block ≡ number = eqb-true _ _ a.right in
      let low : get_or block 0 0 ≡ number % 256 = omega (arith, bytes 0, bytes 1) in
      let high : get_or block 1 0 ≡ number / 256 = omega (arith, bytes 0, bytes 1) in
      let many : get_or block 2 0 ≡ count_of (records_in block) = its_count block a.long few in
      take-add 4 4 block
      ∙ ap (λ (l : List ℕ). l ++ part 4 8 block) (first_four block (omega arith))
      ∙ ap (λ (l : List ℕ). (get_or block 0 0 ∷ get_or block 1 0 ∷ get_or block 2 0 ∷ get_or block 3 0 ∷ []) ++ l) (four_zeros block is a.header)
      ∙ same_four low high many (edition block a.header)

  its_fill : fill_in block ≡ fill_bytes (records_in block)
  its_fill =
      zeros_only (fill_in block) a.fill
      ∙ ap (λ (n : ℕ). replicate n 0) {x = length (fill_in block)} {y = 500 - length (records_in block)}
      (omega (arith, its_length, few, length-take (508 - (8 + 24 * count_in block)) (drop (8 + 24 * count_in block) block), length-drop (8 + 24 * count_in block) block))

  its_body : take 508 block ≡ body_bytes number (records_in block)
  unfolding body_bytes
  its_body =
      let c = count_in block in
      let size : 24 * c + (500 - 24 * c) ≡ 500 = omega (arith, few) in
      let taken : 24 * c ≡ 8 + 24 * c - 8 = omega arith in
      let left : 500 - 24 * c ≡ 508 - (8 + 24 * c) = omega arith in
      let rest : take 500 (drop 8 block) ≡ records_in block ++ fill_in block =
      ap (λ (n : ℕ). take n (drop 8 block)) (sym size)
      ∙ take-add (24 * c) (500 - 24 * c) (drop 8 block)
      ∙ ap (λ (n : ℕ). take n (drop 8 block) ++ take (500 - 24 * c) (drop (24 * c) (drop 8 block))) taken
      ∙ ap (λ (l : List ℕ). records_in block ++ take (500 - 24 * c) l) (drop-drop (24 * c) 8 block)
      ∙ ap (λ (n : ℕ). records_in block ++ take n (drop (8 + 24 * c) block)) left
      in
      take-add 8 500 block
      ∙ ap (λ (l : List ℕ). l ++ take 500 (drop 8 block)) its_header
      ∙ ap (λ (l : List ℕ). word_bytes number ++ header_bytes (count_of (records_in block)) ++ l) (rest ∙ ap (λ (l : List ℕ). records_in block ++ l) its_fill)
      ∙ sym (append_assoc (word_bytes number ++ header_bytes (count_of (records_in block))) (records_in block) (fill_bytes (records_in block)))

  its_sums : drop 508 block ≡ sum_bytes (take 508 block)
  its_sums =
      let last : List ℕ = drop 508 block in
      let at : (k : ℕ) → get_or (drop 508 block) k 0 ≡ get_or block (508 + k) 0 = λ k. get_or-drop 508 block k 0 in
      let plain = plain_right block a.sums in
      let weighted = weighted_right block a.sums in
      let p : get_or (drop 508 block) 0 0 ≡ (sums_of (take 508 block)).plain % 256 = omega (arith, at 0, bytes 508, bytes 509) in
      let q : get_or (drop 508 block) 1 0 ≡ (sums_of (take 508 block)).plain / 256 = omega (arith, at 1, bytes 508, bytes 509) in
      let r : get_or (drop 508 block) 2 0 ≡ (sums_of (take 508 block)).weighted % 256 = omega (arith, at 2, bytes 510, bytes 511) in
      let s : get_or (drop 508 block) 3 0 ≡ (sums_of (take 508 block)).weighted / 256 = omega (arith, at 3, bytes 510, bytes 511) in
      sym (take_all 4 last (omega (arith, length-drop 508 block))) ∙ first_four last (omega (arith, length-drop 508 block)) ∙ rw (p, q, r, s)

  pub only_block : block ≡ block_bytes number records
  unfolding block_bytes
  only_block =
      sym (take-append-drop 508 block)
      ∙ ap (λ (l : List ℕ). take 508 block ++ l) its_sums
      ∙ ap (λ (l : List ℕ). l ++ sum_bytes l) (its_body ∙ ap (body_bytes number) (sym a.given))

-- ---- files

-- an outcome that ends whole began with a block that was accepted, and went on whole
pub record Began (verdict : Verdict (List ℕ)) (rest : Outcome) : Type 0 where
  pub records : List ℕ
  pub took : verdict ≡ accepted records
  pub went_on : rest.end ≡ whole

pub began : (number : ℕ) (verdict : Verdict (List ℕ)) (rest : Outcome) → (go_on number verdict rest).end ≡ whole → Began verdict rest
began number (accepted records) rest e = record { records = records; took = refl; went_on = e }
began number (refused fault) rest e = let z : ◌≡◌ {A = ℕ} 0 1 = cc in absurd (omega arith)

-- the first block of a file that is read whole, and the rest of the file
module _ (number : ℕ) (file : List ℕ) (there : 0 < length file) where
  pub outcome_first : outcome_from read_verdict number (portions 512 file)
      ≡ go_on number (read_verdict number (take 512 file)) (outcome_from read_verdict (suc number) (portions 512 (drop 512 file)))
  unfolding outcome_from
  outcome_first = ap (outcome_from read_verdict number) (portions_first 512 (omega arith) file there)

  pub first_whole : (outcome_from read_verdict number (portions 512 file)).end ≡ whole
      → Began (read_verdict number (take 512 file)) (outcome_from read_verdict (suc number) (portions 512 (drop 512 file)))
  first_whole e = began number _ _ (ap (λ (o : Outcome). o.end) (sym outcome_first) ∙ e)

  pub first_accepted : (records : List ℕ) → read_verdict number (take 512 file) ≡ accepted records → AcceptedBlock number (take 512 file) records
  first_accepted records e =
      accepted_block number (take 512 file) records
      (ap (block_verdict number) (sym (take-take 512 512 file (omega arith))) ∙ sym (some_bytes number (take 512 file) (omega (arith, length-take 512 file))) ∙ e)

pub first_bytes : (n : ℕ) (xs : List ℕ) → AreBytes xs → AreBytes (take n xs)
first_bytes n xs bytes i = elim (dec_lt i n) [
  | yes below ↦ rw (get_or-take n xs i 0 below) (bytes i)
  | no beyond ↦ omega (arith, get_or-eq_default (take n xs) 0 {n = i} (omega (arith, length-take n xs)))
]

pub rest_bytes : (n : ℕ) (xs : List ℕ) → AreBytes xs → AreBytes (drop n xs)
rest_bytes n xs bytes i = rw (get_or-drop n xs i 0) (bytes (n + i))

-- how a file's records are cut into blocks
abbrev pub cut_of : List ℕ → List (List ℕ)
cut_of file = map records_in (portions 512 file)

only_empty : (number : ℕ) (file : List ℕ) → length file ≡ 0 → file ≡ blocks_from number (cut_of file)
unfolding blocks_from
only_empty number file h =
    no_members file h ∙ ap (λ (ps : List (List ℕ)). blocks_from number (map records_in ps)) (sym (ap (portions 512) (no_members file h) ∙ portions_none 512))

none_given : (number : ℕ) (file : List ℕ) → length file ≡ 0 → (outcome_from read_verdict number (portions 512 file)).given ≡ joined (cut_of file)
unfolding outcome_from
none_given number file h =
    let none = ap (portions 512) (no_members file h) ∙ portions_none 512 in
    ap (λ (ps : List (List ℕ)). (outcome_from read_verdict number ps).given) none ∙ ap (λ (ps : List (List ℕ)). joined (map records_in ps)) (sym none)

-- of no more bytes than so many
only_in : (many number : ℕ) (file : List ℕ) → length file ≤ many → AreBytes file → (outcome_from read_verdict number (portions 512 file)).end ≡ whole
    → file ≡ blocks_from number (cut_of file)
unfolding blocks_from
only_in zero number file h bytes e = only_empty number file (omega arith)
only_in (suc many) number file h bytes e = elim (dec_lt 0 (length file)) [
  | yes there ↦
      let first = first_whole number file there e in
      let block = take 512 file in
      let a = first_accepted number file there first.records first.took in
      let its = only_block number block first.records (first_bytes 512 file bytes) (omega (arith, a.long, length-take 512 file)) a in
      let rest = only_in many (suc number) (drop 512 file) (omega (arith, length-drop 512 file)) (rest_bytes 512 file bytes) first.went_on in
      sym (take-append-drop 512 file)
      ∙ ap (λ (l : List ℕ). l ++ drop 512 file) (its ∙ ap (block_bytes number) a.given)
      ∙ ap (λ (l : List ℕ). block_bytes number (records_in (take 512 file)) ++ l) rest
      ∙ ap (λ (ps : List (List ℕ)). blocks_from number (map records_in ps)) (sym (portions_first 512 (omega arith) file there))
  | no none ↦ only_empty number file (omega arith)
]

pub only_file : (file : List ℕ) → AreBytes file → (reading file).end ≡ whole → file ≡ blocks_from 0 (cut_of file)
only_file file bytes e = only_in (length file) 0 file (omega arith) bytes e

-- and gives the records of its blocks, one block's behind the other's
given_in : (many number : ℕ) (file : List ℕ) → length file ≤ many → (outcome_from read_verdict number (portions 512 file)).end ≡ whole
    → (outcome_from read_verdict number (portions 512 file)).given ≡ joined (cut_of file)
given_in zero number file h e = none_given number file (omega arith)
given_in (suc many) number file h e = elim (dec_lt 0 (length file)) [
  | yes there ↦
      let first = first_whole number file there e in
      let a = first_accepted number file there first.records first.took in
      let rest = given_in many (suc number) (drop 512 file) (omega (arith, length-drop 512 file)) first.went_on in
      ap (λ (o : Outcome). o.given) (outcome_first number file there)
      ∙ ap (λ (v : Verdict (List ℕ)). (go_on number v (outcome_from read_verdict (suc number) (portions 512 (drop 512 file)))).given) first.took
      ∙ ap (λ (l : List ℕ). l ++ (outcome_from read_verdict (suc number) (portions 512 (drop 512 file))).given) a.given
      ∙ ap (λ (l : List ℕ). records_in (take 512 file) ++ l) rest
      ∙ ap (λ (ps : List (List ℕ)). joined (map records_in ps)) (sym (portions_first 512 (omega arith) file there))
  | no none ↦ none_given number file (omega arith)
]

pub whole_given : (file : List ℕ) → (reading file).end ≡ whole → (reading file).given ≡ joined (cut_of file)
whole_given file e = given_in (length file) 0 file (omega arith) e

-- two files that are read whole, whose records are cut into blocks alike, are one
pub determined : (file other : List ℕ) → AreBytes file → AreBytes other → (reading file).end ≡ whole → (reading other).end ≡ whole → cut_of file ≡ cut_of other → file ≡ other
determined file other bytes bytes' e e' same = only_file file bytes e ∙ ap (blocks_from 0) same ∙ sym (only_file other bytes' e')
