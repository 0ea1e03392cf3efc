-- Any two results that a contract allows for one input coincide: the law of `law_results`, cited for each public function of this crate.
use mathlib.Core.Path.{◌≡◌}
use Rattle.std.specs.Prelude.{Result}
use Rattle.law_results.proofs.Determined.{Determined, coincide, itself}
use Rattle.check_verdicts.specs.Verdicts.{Verdict, verdict_by}
use Rattle.check_verdicts.proofs.Verdicts.{verdict_back, verdict_again}
use Rattle.check_refusals.specs.Refusals.{says}
use Rattle.check_refusals.specs.declared.Refusal.{Refusal}
use Rattle.check_refusals.proofs.Eight.{refusal_back, of_eight}
use Rattle.check_refusals.proofs.Refusal.number.Kinds as number-kinds
use Rattle.check_refusals.proofs.Refusal.number.Reads as number-reads
use Rattle.check_refusals.proofs.Refusal.place.Kinds as place-kinds
use Rattle.check_refusals.proofs.Refusal.place.Reads as place-reads
use Rattle.check_refusals.proofs.Refusal.found.Kinds as found-kinds
use Rattle.check_refusals.proofs.Refusal.found.Reads as found-reads

number : Determined 0 number-kinds.ps number-kinds.r number-reads.Post
number κs a x y s t p q = itself p q

place : Determined 0 place-kinds.ps place-kinds.r place-reads.Post
place κs a x y s t p q = itself p q

found : Determined 0 found-kinds.ps found-kinds.r found-reads.Post
found κs a x y s t p q = itself p q

-- two results that come to one verdict, where an error says the refusals' numbers
pub by_verdict : {A : Type 0} {x y : Result A Refusal} {v : Verdict A} → verdict_by says x ≡ v → verdict_by says y ≡ v → x ≡ y
by_verdict p q = coincide (verdict_by says) (verdict_back refusal_back) (verdict_again says refusal_back (λ why. (of_eight why).back)) p q
