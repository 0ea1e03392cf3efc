-- Laws of a block's layout as it is written: its lengths, and what its bytes are laid over.
use mathlib.Core.Path.{◌≡◌, refl, sym, ◌∙◌, ap}
use mathlib.Core.List.{List, ◌++◌, append_assoc}
use Prim.Native.Nat.{ℕ, ◌+◌, ◌-◌, ◌≤◌}
use native.Mathlib.Omega.{arith}
use lib.ListN.{length, drop, replicate, length-append, length-replicate, replicate-append-replicate}
use lib.Seq.{take_all, drop-drop, take_at}
use lib.Seq.{paste}
use Rattle.law_lists.specs.Places.{part}
use Rattle.law_lists.proofs.Parts.{drop_zeros}
use Rattle.block_numbers.specs.Words.{word_bytes}
use Rattle.block_parts.specs.Parts.{count_of, count_in, header_bytes, fill_bytes, body_bytes, block_bytes}

module _ (number : ℕ) (records : List ℕ) (few : length records ≤ 480) where
  pub body_length : length (body_bytes number records) ≡ 508
  unfolding body_bytes
  body_length = simp (length-append, length-replicate) (omega arith)

  pub block_length : length (block_bytes number records) ≡ 512
  unfolding block_bytes
  block_length = simp length-append (omega (arith, body_length))

  -- records laid after number and header of a block that is else zeros
  abbrev begun : List ℕ
  begun = word_bytes number ++ header_bytes (count_of records) ++ replicate 504 0

  pub body_laid : paste begun 8 records (length records) ≡ body_bytes number records ++ replicate 4 0
  unfolding body_bytes
  body_laid =
      let head : List ℕ = word_bytes number ++ header_bytes (count_of records) ++ records in
      let many : 500 - length records + 4 ≡ 504 - length records = omega arith in
      let zeros-left : drop (8 + length records) begun ≡ fill_bytes records ++ replicate 4 0 =
      sym (drop-drop (length records) 8 begun) ∙ drop_zeros (length records) 504 ∙ ap (λ (n : ℕ). replicate n 0) (sym many)
      ∙ sym (replicate-append-replicate (500 - length records) 4 0)
      in
      ap (λ (l : List ℕ). word_bytes number ++ header_bytes (count_of records) ++ l ++ drop (8 + length records) begun) (take_all (length records) records (omega arith))
      ∙ ap (λ (l : List ℕ). head ++ l) zeros-left
      ∙ sym (append_assoc head (fill_bytes records) (replicate 4 0))

-- the number aside, a body is that of any other number
pub numbered_body : (number : ℕ) (records : List ℕ) → length records ≤ 480 → word_bytes number ++ part 2 508 (body_bytes 0 records ++ replicate 4 0) ≡ body_bytes number records
unfolding body_bytes
numbered_body number records few =
    let kept : List ℕ = header_bytes (count_of records) ++ records ++ fill_bytes records in
    let long : length kept ≡ 506 = simp (length-append, length-replicate) (omega arith) in
    ap (λ (l : List ℕ). word_bytes number ++ l) (take_at kept (replicate 4 0) 506 long)

-- the count that stands in a block is that of its records
pub block_count : (number : ℕ) (records : List ℕ) → count_in (block_bytes number records) ≡ count_of records
unfolding block_bytes body_bytes
block_count number records = refl
