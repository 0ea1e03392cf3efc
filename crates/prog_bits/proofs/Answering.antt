-- What is said of bytes left over; and whatever a read gives, a turn adds at most 800 frames and holds less than a record.
use mathlib.Core.Path.{◌≡◌, refl, ap, ◌∙◌}
use mathlib.Core.List.{List, [], ◌∷◌}
use Prim.Native.Nat.{ℕ, ◌+◌, ◌≤◌, ◌<◌}
use native.Mathlib.Omega.{arith}
use lib.ListN.{length, take}
use Rattle.cost_bytes.specs.SideBytes.{line_of}
use Rattle.io_rest.proofs.Rests.{rest_below}
use Rattle.io_streams.specs.Reads.{Within}
use Rattle.io_streams.specs.declared.Read.{Read}
use Rattle.io_streams.specs.declared.Read.TheVariants as read
use Rattle.io_turns.specs.declared.Standing.{Standing}
use Rattle.text_put.specs.Text.{after}
use Rattle.text_put.proofs.Pieces.{all_put}
use Rattle.text_answers.specs.Wording.{line_text}
use Rattle.text_answers.proofs.Sayings.{line_at_most}
use Rattle.prog_bits.specs.Output.{rest_text, AnswersRest, AnswersRead}

some_left : (frame : ℕ) (bytes : List ℕ) → 0 < length bytes → line_text frame (line_of bytes) ≡ rest_text frame bytes
some_left frame [] some = absurd (omega arith)
some_left frame (byte ∷ rest) some = refl

-- a line lies within the output
pub last_line : (frame : ℕ) (bytes before output : List ℕ) → before ≡ [] → output ≡ after 65536 before (line_text frame (line_of bytes)) → 0 < length bytes
    → output ≡ rest_text frame bytes
last_line frame bytes before output none put some =
    let line = line_text frame (line_of bytes) in
    put ∙ ap (λ (b : List ℕ). after 65536 b line) none ∙ all_put 65536 [] line (omega (arith, line_at_most frame (line_of bytes))) ∙ some_left frame bytes some

pub record InRange (standing result : Standing) : Type 0 where
  pub frame : result.number ≤ standing.number + 800
  pub held : result.held < 20
  pub reads : result.reads ≡ standing.reads

module _ (standing : Standing) (found left output : List ℕ) (result : Standing) where
  rest_in_range : (bytes : List ℕ) → AnswersRest standing bytes output result → InRange standing result
  rest_in_range bytes a = record { frame = omega (arith, a.same_frame); held = omega (arith, a.none); reads = a.reads }

  pub still_in_range : (got : Read) → length found ≤ 16000 → Within standing.held (length found) got → AnswersRead got standing found left output result
      → InRange standing result
  still_in_range (read.Bytes count) short w a =
      record {
        frame = omega (arith, a.next_frame, w.1);
        held = omega (arith, a.keeps.so_many, rest_below 20 (standing.held + count) (omega arith));
        reads = a.reads;
      }
  still_in_range read.End short w a = rest_in_range (take standing.held found) a
  still_in_range read.Failed short w a = rest_in_range (take standing.held found) a
