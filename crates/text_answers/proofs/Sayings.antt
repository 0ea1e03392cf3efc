-- No line has more than 81 bytes.
use Prim.Native.Nat.{ℕ, ◌≤◌}
use native.Mathlib.Omega.{arith}
use lib.ListN.{length, length-append}
use Rattle.check_verdicts.specs.Verdicts.{numbered, placed, Verdict, accepted, refused}
use Rattle.cost_bytes.specs.SideBytes.{Line, short, costs}
use Rattle.text_put.proofs.Decimals.{decimal_at_most}
use Rattle.text_answers.specs.Wording.{answer_text, saying_text, line_text}

answer_at_most : (verdict : Verdict ℕ) → length (answer_text verdict) ≤ 52
answer_at_most (accepted bits) = simp length-append (omega (arith, decimal_at_most bits))
answer_at_most (refused (numbered number)) = simp length-append (omega (arith, decimal_at_most number))
answer_at_most (refused (placed number place found)) = simp length-append (omega (arith, decimal_at_most number, decimal_at_most place))

saying_at_most : (line : Line) → length (saying_text line) ≤ 52
saying_at_most short = omega arith
saying_at_most (costs verdict) = answer_at_most verdict

pub line_at_most : (frame : ℕ) (line : Line) → length (line_text frame line) ≤ 81
line_at_most frame line = simp length-append (omega (arith, decimal_at_most frame, saying_at_most line))
