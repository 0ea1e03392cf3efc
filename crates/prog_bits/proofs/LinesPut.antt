-- Laws of lines that are put one after the other, and that those of 800 records fit 65,536 bytes.
use mathlib.Core.Path.{◌≡◌, refl, sym, ◌∙◌, ap}
use mathlib.Core.List.{List, [], ◌++◌}
use Prim.Native.Nat.{ℕ, zero, suc, ◌+◌, ◌-◌, ◌*◌, ◌/◌, ◌≤◌, ◌<◌}
use native.Mathlib.Numerals.{add-one}
use native.Mathlib.Omega.{arith}
use lib.ListN.{length, length-append, length-take, get_or, take, drop}
use lib.Seq.{take-nil, take_all}
use Rattle.std.specs.Simd.{first_chunks}
use Rattle.std.proofs.lemmas.List.{drop-drop, drop-take, take-take}
use Rattle.cost_bytes.specs.SideBytes.{line_of}
use Rattle.text_put.specs.Text.{after}
use Rattle.text_answers.specs.Wording.{line_text}
use Rattle.text_answers.proofs.Sayings.{line_at_most}
use Rattle.prog_bits.specs.Output.{record20, lines_text}

pub no_lines : (room frame : ℕ) (bytes : List ℕ) → [] ≡ after room [] (lines_text frame bytes 0)
unfolding after lines_text
no_lines room frame bytes = sym (take-nil room)

-- the array that the library gives for a record is the record's bytes
chunk_at : (count k from : ℕ) (bytes : List ℕ) → k < count → get_or (first_chunks 20 count (drop from bytes)) k [] ≡ take 20 (drop (from + 20 * k) bytes)
chunk_at zero k from bytes h = absurd (omega (arith, h))
chunk_at (suc count) zero from bytes h = ap (λ (n : ℕ). take 20 (drop n bytes)) {x = from} {y = from + 20 * 0} (omega arith)
chunk_at (suc count) (suc k) from bytes h =
    ap (λ (l : List ℕ). get_or (first_chunks 20 count l) k []) (drop-drop 20 from bytes)
    ∙ chunk_at count k (from + 20) bytes (omega (arith, h))
    ∙ ap (λ (n : ℕ). take 20 (drop n bytes)) {x = from + 20 + 20 * k} {y = from + 20 * suc k} (omega arith)

its_record : (bytes : List ℕ) (count k : ℕ) → k < count → get_or (first_chunks 20 count bytes) k [] ≡ record20 bytes k
its_record bytes count k h = chunk_at count k 0 bytes h ∙ ap (λ (n : ℕ). take 20 (drop n bytes)) {x = 0 + 20 * k} {y = 20 * k} (omega arith)

-- and so is each that it gives
pub given_record : (bytes : List ℕ) (records : List (List ℕ)) (k : ℕ) → records ≡ first_chunks 20 (length bytes / 20) bytes → k < length bytes / 20
    → get_or records k [] ≡ record20 bytes k
given_record bytes records k e h = ap (λ (r : List (List ℕ)). get_or r k []) e ∙ its_record bytes (length bytes / 20) k h

pub one_more : (frame k : ℕ) (bytes : List ℕ) → lines_text frame bytes k ++ line_text (frame + k) (line_of (record20 bytes k)) ≡ lines_text frame bytes (k + 1)
unfolding lines_text
one_more frame k bytes = ap (lines_text frame bytes) (sym (add-one k))

-- a record of the first bytes is one of all
same_record : (n k : ℕ) (bytes : List ℕ) → 20 * suc k ≤ n → record20 (take n bytes) k ≡ record20 bytes k
same_record n k bytes h =
    let past : ℕ = n - 20 * k in
    let all : n ≡ 20 * k + past = omega arith in
    ap (λ (m : ℕ). take 20 (drop (20 * k) (take m bytes))) all
    ∙ ap (take 20) (drop-take (20 * k) past bytes)
    ∙ take-take 20 past (drop (20 * k) bytes) (omega arith)

same_lines : (frame n : ℕ) (bytes : List ℕ) (k : ℕ) → 20 * k ≤ n → lines_text frame (take n bytes) k ≡ lines_text frame bytes k
unfolding lines_text
same_lines frame n bytes zero h = refl
same_lines frame n bytes (suc k) h =
    ap (λ (lines : List ℕ). lines ++ line_text (frame + k) (line_of (record20 (take n bytes) k))) (same_lines frame n bytes k (omega (arith, h)))
    ∙ ap (λ (bytes20 : List ℕ). lines_text frame bytes k ++ line_text (frame + k) (line_of bytes20)) (same_record n k bytes h)

-- the lines of the first bytes read are the first lines of all
pub piece_lines : (frame read : ℕ) (bytes : List ℕ) → read ≤ length bytes
    → lines_text frame (take read bytes) (length (take read bytes) / 20) ≡ lines_text frame bytes (read / 20)
piece_lines frame read bytes within =
    let long : length (take read bytes) ≡ read = omega (arith, length-take read bytes) in
    ap (λ (n : ℕ). lines_text frame (take read bytes) (n / 20)) long ∙ same_lines frame read bytes (read / 20) (omega arith)

lines_at_most : (frame : ℕ) (bytes : List ℕ) (k : ℕ) → length (lines_text frame bytes k) ≤ 81 * k
unfolding lines_text
lines_at_most frame bytes zero = omega arith
lines_at_most frame bytes (suc k) =
    omega (
      arith,
      length-append (lines_text frame bytes k) (line_text (frame + k) (line_of (record20 bytes k))),
      lines_at_most frame bytes k,
      line_at_most (frame + k) (line_of (record20 bytes k)),
    )

-- so nothing of them is left out
pub all_lines : (room frame : ℕ) (bytes : List ℕ) (k : ℕ) → 81 * k ≤ room → after room [] (lines_text frame bytes k) ≡ lines_text frame bytes k
unfolding after
all_lines room frame bytes k h = take_all room (lines_text frame bytes k) (omega (arith, lines_at_most frame bytes k))
