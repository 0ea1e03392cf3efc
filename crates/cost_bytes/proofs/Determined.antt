-- Any two results that a contract allows for one input coincide: the law of `law_results`, cited for each public function of this crate.
use mathlib.Core.Path.{◌≡◌, refl, ap}
use Rattle.law_results.proofs.Determined.{Determined, coincide, itself}
use Prim.Native.Nat.{ℕ}
use Rattle.std.specs.Prelude.{Option, Some, None, Result}
use Rattle.check_verdicts.proofs.Verdicts.{verdict_back, verdict_again}
use Rattle.check_refusals.specs.Refusals.{says}
use Rattle.check_refusals.specs.declared.Refusal.{Refusal}
use Rattle.check_refusals.proofs.Eight.{refusal_back, of_eight}
use Rattle.cost_bytes.specs.SideBytes.{Line, short, costs, bytes_say}
use Rattle.cost_bytes.proofs.bytes_cost.Kinds as bytes-cost-kinds
use Rattle.cost_bytes.proofs.bytes_cost.Reads as bytes-cost-reads
use Rattle.cost_bytes.proofs.side_bytes.Kinds as side-bytes-kinds
use Rattle.cost_bytes.proofs.side_bytes.Reads as side-bytes-reads

abbrev answer_of : Line → Option (Result ℕ Refusal)
answer_of short = None
answer_of (costs verdict) = Some (verdict_back refusal_back verdict)

bytes_back : (answer : Option (Result ℕ Refusal)) → answer_of (bytes_say answer) ≡ answer
bytes_back None = refl
bytes_back (Some answer) = ap Some (verdict_again says refusal_back (λ why. (of_eight why).back) answer)

bytes_cost : Determined 1 bytes-cost-kinds.ps bytes-cost-kinds.r bytes-cost-reads.Post
bytes_cost κs a x y s t p q = coincide bytes_say answer_of bytes_back p q

side_bytes : Determined 0 side-bytes-kinds.ps side-bytes-kinds.r side-bytes-reads.Post
side_bytes κs a x y s t p q = itself p q
