-- Laws of verdicts, whatever the refusals are: checks that stand one after the other, and what follows them; and a result back from its verdict.
use mathlib.Core.Path.{◌≡◌, refl, sym, ap}
use mathlib.Core.Bool.{Bool, true, false}
use Prim.Native.Nat.{ℕ}
use Rattle.std.specs.Prelude.{Result, Ok, Err}
use native.Mathlib.Omega.{arith}
use Rattle.check_verdicts.specs.Verdicts.{Fault, numbered, Verdict, accepted, refused, check, verdict_by}

-- what was refused was not accepted
pub not_accepted : {A C : Type 0} {fault : Fault} {a : A} → refused fault ≡ accepted a → C
not_accepted e = let z : ◌≡◌ {A = ℕ} 0 1 = cc in absurd (omega arith)

-- the first refusal stands; an accepted call leaves the answer to what follows
abbrev pub settle : {B : Type 0} → Verdict (Unit {0}) → Verdict B → Verdict B
settle (accepted a) next = next
settle (refused fault) next = refused fault

-- where the checks and a result after them give a refusal, the checks give it, whatever follows
pub refused_by_checks : {A B : Type 0} (v : Verdict (Unit {0})) (a : A) (why : Fault) → refused why ≡ settle v (accepted a) → (next : Verdict B) → settle v next ≡ refused why
refused_by_checks (accepted u) a why e next = not_accepted e
refused_by_checks (refused fault) a why e next = let same : fault ≡ why = cc in ap refused same

-- where they give a result, it is that result, and the checks leave every answer to what follows
pub passed_by_checks : {A B : Type 0} (v : Verdict (Unit {0})) (a r : A) → accepted r ≡ settle v (accepted a) → (r ≡ a) × ((next : Verdict B) → settle v next ≡ next)
passed_by_checks (accepted u) a r e = (cc, λ next. refl)
passed_by_checks (refused fault) a r e = not_accepted (sym e)

-- what holds of a check's refusal, and of what follows where it finds no fault, holds of its answer
module _ {A : Type 0} (P : Verdict A → Type 0) where
  pub check_by : (number : ℕ) (bad : Bool) (next : Verdict A) → P (refused (numbered number)) → (bad ≡ false → P next) → P (check number bad next)
  check_by number true next stops goes = stops
  check_by number false next stops goes = goes refl

-- a result back from its verdict, by what gives an error back from its fault
abbrev pub verdict_back : {A E : Type 0} → (Fault → E) → Verdict A → Result A E
verdict_back back (accepted a) = Ok a
verdict_back back (refused fault) = Err (back fault)

pub verdict_again : {A E : Type 0} (says : E → Fault) (back : Fault → E) → ((e : E) → back (says e) ≡ e) → (r : Result A E) → verdict_back back (verdict_by says r) ≡ r
verdict_again says back again (Ok a) = refl
verdict_again says back again (Err e) = ap Err (again e)
