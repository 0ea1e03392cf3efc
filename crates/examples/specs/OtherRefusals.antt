-- A refusal of another kind than the eight, as a file's or a text's will be. It has an enum of its own, with numbers and places of any size, and
-- what is said of verdicts holds of it as it stands: neither `Refusal` nor a law of check_refusals knows of it.
use Rattle.std.specs.Prelude.{◌≡◌, refl, ℕ}
use Rattle.check_verdicts.specs.Verdicts.{Fault, numbered, placed, Verdict, refused, number_of, place_of, of_fault, unless_refused}
use Rattle.check_verdicts.proofs.Verdicts.{settle}

-- a line of a text that is refused at one of its bytes; or too much of it
data TextRefusal : Type 0 where
  bad_line : ℕ → ℕ → TextRefusal
  too_long : TextRefusal

abbrev text_says : TextRefusal → Fault
text_says (bad_line line byte) = placed 15 line byte
text_says too_long = numbered 9

-- it stands before whatever would follow, leaves what was there, and is given by its number and place
stands : {A : Type 0} (why : TextRefusal) (next : Verdict A) → settle (refused (text_says why)) next ≡ refused (text_says why)
stands why next = refl

leaves : {A B : Type 0} (why : TextRefusal) (made : A → B) (before : B) → unless_refused (refused (text_says why)) made before ≡ before
leaves why made before = refl

number_and_place : (A : Type 0) → (of_fault {A = A} number_of (refused (text_says (bad_line 70000 3))) ≡ 15) × (of_fault {A = A} place_of (refused (text_says (bad_line 70000 3))) ≡ 70000)
number_and_place A = (refl, refl)
