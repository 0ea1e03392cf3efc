-- docs/RULES.md, "Refusal numbers": what a call answers, by number, and checks that run in number order. A refusal of any kind is a fault, so
-- what is said here holds of calls on spectra, on blocks and on files.
use Rattle.std.specs.Prelude.{Bool, cond, ℕ, Result, Ok, Err}

-- Why a call is refused: a number alone, or a number (6, 7) with the lowest bad place and the number found there. A call of another kind, as of a
-- file or a text, has refusals of its own; they are faults too, and what is said here of verdicts holds of them.
pub data Fault : Type 0 where
  numbered : ℕ → Fault
  placed : ℕ → ℕ → ℕ → Fault

-- a call is accepted with a result, or refused
pub data Verdict (A : Type 0) : Type 0 where
  accepted : A → Verdict A
  refused : Fault → Verdict A

-- What the result of a function comes to as a verdict: `Ok` is accepted with its value, and `Err` refused for what its error says.
abbrev pub verdict_by : {A E : Type 0} → (E → Fault) → Result A E → Verdict A
verdict_by says (Ok a) = accepted a
verdict_by says (Err e) = refused (says e)

-- the number of a fault, and its place and found value, which are 0 where it names none
abbrev pub number_of : Fault → ℕ
number_of (numbered number) = number
number_of (placed number place found) = number

abbrev pub place_of : Fault → ℕ
place_of (numbered number) = 0
place_of (placed number place found) = place

abbrev pub found_of : Fault → ℕ
found_of (numbered number) = 0
found_of (placed number place found) = found

-- what is made of the result of an accepted call; of a refused one, what was there before
abbrev pub unless_refused : {A B : Type 0} → Verdict A → (A → B) → B → B
unless_refused (accepted a) made before = made a
unless_refused (refused fault) made before = before

-- what is read off the fault of a refused call; of an accepted one, 0
abbrev pub of_fault : {A : Type 0} → (Fault → ℕ) → Verdict A → ℕ
of_fault read (accepted a) = 0
of_fault read (refused fault) = read fault

-- what holds of an accepted call
abbrev pub IfAccepted : {A : Type 0} → Verdict A → Type 0 → Type 0
IfAccepted (accepted a) P = P
IfAccepted (refused fault) P = Unit {0}

-- the same verdict, of another result
abbrev pub on_accepted : {A B : Type 0} → (A → B) → Verdict A → Verdict B
on_accepted made (accepted a) = accepted (made a)
on_accepted made (refused fault) = refused fault

-- the bits of a result: a decoded spectrum has none, and a cost is its bits
abbrev pub no_bits : Unit {0} → ℕ
no_bits u = 0

abbrev pub its_bits : ℕ → ℕ
its_bits bits = bits

-- the bits of an accepted call, read off its result, and 0 of a refused one
abbrev pub bits_in : {A : Type 0} → (A → ℕ) → Verdict A → ℕ
bits_in bits verdict = unless_refused verdict bits 0

-- One check after the other, by number: the first that finds a fault decides, and one that finds none leaves the answer to what follows.
abbrev pub check : {A : Type 0} → ℕ → Bool → Verdict A → Verdict A
check number bad next = cond bad (refused (numbered number)) next

-- what the checks say of a call before it has a result
abbrev pub no_fault : Verdict (Unit {0})
no_fault = accepted tt
