-- How the exported functions give a verdict: refusal 0 is an accepted call.
use Rattle.std.specs.Prelude.{ℕ}
use Rattle.check_verdicts.specs.Verdicts.{Verdict, number_of, place_of, found_of, of_fault, bits_in}
use Rattle.answer_call.specs.declared.Answer.{Answer}

-- the number, the place and the found value that the verdict names, each 0 where it names none, and the bits
abbrev pub answer_for : {A : Type 0} → (A → ℕ) → Verdict A → Answer
answer_for bits verdict =
    record { refusal = of_fault number_of verdict; place = of_fault place_of verdict; found = of_fault found_of verdict; bits = bits_in bits verdict }
