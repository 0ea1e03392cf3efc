-- What some bytes cost: too few of them are told as such, and of enough of them the cost call's answer.
use Rattle.std.proofs.Common.{◌≡◌, List, ℕ, ◌<◌, ◌≤◌, length, get_or, ◌∙◌, ap}
use borrow.Author.Tests.{lt-ltb, le-ltb}
use Rattle.law_lists.specs.Places.{part}
use Rattle.check_verdicts.specs.Verdicts.{Verdict}
use Rattle.cost_call.specs.Cost.{cost_of}
use Rattle.cost_bytes.specs.SideBytes.{short, costs, line_of, fields_of}

pub too_few : (bytes : List ℕ) → length bytes < 20 → short ≡ line_of bytes
unfolding line_of
too_few bytes h = simp (lt-ltb _ _ h)

pub enough : (bytes : List ℕ) (verdict : Verdict ℕ) → verdict ≡ cost_of (get_or bytes 0 0) (get_or bytes 1 0) (part 2 4 bytes) (part 4 20 bytes) → 20 ≤ length bytes
    → costs verdict ≡ line_of bytes
unfolding line_of fields_of
enough bytes verdict e h = ap costs e ∙ simp (le-ltb _ _ h)
