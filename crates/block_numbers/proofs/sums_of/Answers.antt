use Rattle.std.proofs.Common.{rules, ◌≡◌, ◌∙◌, ap, List, [], ℕ, ◌+◌, ◌-◌, ◌*◌, ◌%◌, ◌≤◌, ◌<◌, min, add-one, arith, length, get_or, drop, take, drop-cons}
use native.Mathlib.Nat.{mul-le-mul}
use lib.ListN.{drop_of_length-le}
use Rattle.std.proofs.lemmas.List.{take_min}
use Rattle.law_lists.specs.Counted.{total}
use Rattle.block_numbers.specs.Sums.{weighted_from, sums_of}
use Rattle.block_numbers.proofs.sums_of.Goals as goal

module _ (bytes : List ℕ) (i : ℕ) where
  -- the byte at a place, and those after it
  module _ (here : i < length bytes) where
    plain_more : total (drop i bytes) ≡ get_or bytes i 0 + total (drop (i + 1) bytes)
    unfolding total
    plain_more = rw (add-one, drop-cons bytes i 0 here)

    weighted_more : weighted_from i (drop i bytes) ≡ (508 - i) * get_or bytes i 0 + weighted_from (i + 1) (drop (i + 1) bytes)
    unfolding weighted_from
    weighted_more = rw (add-one, drop-cons bytes i 0 here)

  -- none is left
  both : length bytes ≤ i → (plain weighted : ℕ) → plain + total (drop i bytes) ≡ total bytes → weighted + weighted_from i (drop i bytes) ≡ weighted_from 0 bytes
      → record { plain = plain % 65521; weighted = weighted % 65521 } ≡ sums_of bytes
  unfolding sums_of total weighted_from
  both end plain weighted p w =
      let none : drop i bytes ≡ [] = drop_of_length-le bytes end in
      let a : plain ≡ total bytes = omega (arith, p, ap total none) in
      let b : weighted ≡ weighted_from 0 bytes = omega (arith, w, ap (weighted_from i) none) in
      rw (a, b)

-- the first 508 of some bytes
first : (bytes : List ℕ) (n : ℕ) → n ≡ min (length bytes) 508 → take n bytes ≡ take 508 bytes
first bytes n e = let same : n ≡ min 508 (length bytes) = omega arith in ap (λ (k : ℕ). take k bytes) same ∙ take_min 508 bytes

-- what a byte weighs
weighs : (weight byte : ℕ) → weight ≤ 508 → byte ≤ 255 → weight * byte ≤ 129540
weighs weight byte h k = omega (arith, mul-le-mul h k)

pub loop-place-preserved : goal.loop-place-preserved
loop-place-preserved c =
    let l = c.loop-place in
    let bytes = take c.min.result c.args.bytes.now in
    let byte : c.from-byte.result ≤ 255 = search rules in
    let here : l.place < length bytes = c.loop-place-test.true in
    let weighed : (508 - l.place) * c.from-byte.result ≡ (508 - l.place) * get_or bytes l.place 0 = ap (λ (b : ℕ). (508 - l.place) * b) c.from-byte.ensures in
    record {
      plain_small = omega (arith, byte);
      weighted_small = omega (arith, weighs (508 - l.place) c.from-byte.result (omega arith) byte);
      plain_so_far = omega (arith, c.from-byte.ensures, plain_more bytes l.place here);
      weighted_so_far = omega (arith, weighed, weighted_more bytes l.place here);
    }

pub returns : goal.returns
returns c =
    let l = c.loop-place in
    both (take c.min.result c.args.bytes.now) l.place c.loop-place-test.false l.plain l.weighted l.invariant.plain_so_far l.invariant.weighted_so_far
    ∙ ap sums_of (first c.args.bytes.now c.min.result c.min.ensures)
