-- Each list stands behind the one before it, in place of the zeros there.
use Rattle.std.proofs.Common.{◌≡◌, ◌≤◌, ℕ, List, [], ◌++◌, length, take, drop, refl, sym, ◌∙◌, ap, length-append, length-drop, append_assoc, arith}
use Rattle.std.proofs.Math.ListN.{replicate, drop_of_length-le}
use Rattle.std.proofs.lemmas.List.{take_at, drop_at, append-nil}
use Rattle.cost_bytes.proofs.side_bytes.Goals as goal

-- the bytes once two lists are written
abbrev two : List ℕ → List ℕ → List ℕ → List ℕ
two head first zeros = take 4 (head ++ zeros) ++ (first ++ drop 8 (drop 4 (head ++ zeros)))

module _ (head first zeros : List ℕ) (four : length head ≡ 4) (eight : length first ≡ 8) (sixteen : length zeros ≡ 16) where
  two_stand : two head first zeros ≡ (head ++ first) ++ drop 8 zeros
  two_stand = rw (take_at head zeros 4 four, drop_at head zeros 4 four) (sym (append_assoc head first (drop 8 zeros)))

  twelve : length (head ++ first) ≡ 12
  twelve = omega (arith, length-append head first)

  two_long : 20 ≤ length (two head first zeros)
  two_long = rw two_stand (omega (arith, twelve, length-append (head ++ first) (drop 8 zeros), length-drop 8 zeros))

  all_stand : (second : List ℕ) → take 12 (two head first zeros) ++ (second ++ drop 8 (drop 12 (two head first zeros))) ≡ head ++ (first ++ second)
  all_stand second =
      let few : length (drop 8 zeros) ≤ 8 = omega (arith, length-drop 8 zeros) in
      let none : drop 8 (drop 8 zeros) ≡ [] = drop_of_length-le (drop 8 zeros) few in
      rw (two_stand, take_at (head ++ first) (drop 8 zeros) 12 twelve, drop_at (head ++ first) (drop 8 zeros) 12 twelve, none, append-nil second)
      (append_assoc head first second)

pub slice_bounds-bytes-end-3 : goal.slice_bounds-bytes-end-3
slice_bounds-bytes-end-3 c =
    let eight : length c.copy_from_slice-2.new.self ≡ 8 = ap length c.copy_from_slice-2.ensures.after ∙ omega arith in
    two_long c.copy_from_slice.new.self c.copy_from_slice-2.new.self (replicate 16 0) c.copy_from_slice.ensures.len eight refl

pub returns : goal.returns
returns c =
    let four : length c.args.head ≡ 4 = omega arith in
    let eight : length c.args.first ≡ 8 = omega arith in
    rw (c.copy_from_slice.ensures.after, c.copy_from_slice-2.ensures.after, c.copy_from_slice-3.ensures.after)
    (all_stand c.args.head c.args.first (replicate 16 0) four eight refl c.args.second)
