-- The last four of 512 bytes.
use Rattle.std.proofs.Common.{rules, ◌≡◌, ◌∙◌, ap, List, ◌++◌, ℕ, ◌≤◌, length, take, arith}
use mathlib.Core.List.{append-nil}
use borrow.Rule.Slice.PartMut.{put_mid}
use lib.ListN.{drop, drop_of_length-le, length-drop}
use Rattle.block_parts.specs.Parts.{sum_bytes}
use Rattle.block_bytes.proofs.with_sums.Goals as goal

last_four : (block now four : List ℕ) → length block ≡ 512 → now ≡ four → put_mid 508 4 block now ≡ take 508 block ++ four
last_four block now four whole e =
    let past : length (drop 508 block) ≤ 4 = omega (arith, length-drop 508 block) in
    ap (λ (l : List ℕ). take 508 block ++ (now ++ l)) (drop_of_length-le (drop 508 block) past)
    ∙ ap (λ (l : List ℕ). take 508 block ++ l) (append-nil now)
    ∙ ap (λ (l : List ℕ). take 508 block ++ l) e

pub returns : goal.returns
returns c = last_four c.args.block c.copy_from_slice.new.self (sum_bytes (take 508 c.args.block)) (omega arith) (search rules)
