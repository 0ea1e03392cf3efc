-- Laws of what the step says: a block that is kept takes the number that it is given, if there is such a number, and of any other its fault stands.
use mathlib.Core.Path.{◌≡◌, refl, sym, ◌∙◌}
use mathlib.Core.List.{List}
use Prim.Native.Nat.{ℕ, ◌≤◌, ◌<◌}
use native.Mathlib.Decide.{dec_lt}
use native.Mathlib.Omega.{arith}
use borrow.Author.Tests.{lt-ltb, le-ltb}
use lib.ListN.{length, drop, length-append, length-take, length-drop}
use Rattle.check_verdicts.specs.Verdicts.{Fault, Verdict, numbered, accepted, refused}
use Rattle.check_verdicts.proofs.Verdicts.{not_accepted}
use Rattle.block_parts.specs.Parts.{records_in}
use Rattle.block_kept.specs.Kept.{kept_verdict}
use Rattle.block_kept.proofs.Kept.{kept_on, fault_stands}
use Rattle.block_rescue.specs.Rescue.{renumbered, rescue_verdict}

module _ (number : ℕ) (block : List ℕ) where
  pub rescue_fault : (fault : Fault) → kept_verdict block ≡ refused fault → rescue_verdict number block ≡ refused fault
  unfolding rescue_verdict
  rescue_fault fault e = fault_stands block _ fault e

  module _ (records : List ℕ) (kept : kept_verdict block ≡ accepted records) where
    pub takes_number : number ≤ 65535 → rescue_verdict number block ≡ accepted (renumbered number block)
    unfolding rescue_verdict
    takes_number few = kept_on block _ records kept ∙ rw (le-ltb _ _ few)

    pub no_number : 65535 < number → rescue_verdict number block ≡ refused (numbered 9)
    unfolding rescue_verdict
    no_number many = kept_on block _ records kept ∙ rw (lt-ltb _ _ many)

  -- a block that is renumbered is as long as it was
  pub renumbered_length : length block ≡ 512 → length (renumbered number block) ≡ 512
  unfolding renumbered
  renumbered_length is = simp length-append (omega (arith, length-take 506 (drop 2 block), length-drop 2 block))

  pub record Rescuable (becomes : List ℕ) : Type 0 where
    pub in_range : number ≤ 65535
    pub kept : kept_verdict block ≡ accepted (records_in block)
    pub its : becomes ≡ renumbered number block

  -- what is known of a block that the step accepts
  pub rescuable : (becomes : List ℕ) → rescue_verdict number block ≡ accepted becomes → Rescuable becomes
  rescuable becomes e = by (kept_verdict block) refl
    where
      by : (v : Verdict (List ℕ)) → kept_verdict block ≡ v → Rescuable becomes
      by (refused fault) f = not_accepted (sym (rescue_fault fault f) ∙ e)
      by (accepted records) f = elim (dec_lt 65535 number) [
        | yes many ↦ not_accepted (sym (no_number records f many) ∙ e)
        | no few ↦
            let same : accepted (renumbered number block) ≡ accepted becomes = sym (takes_number records f (omega arith)) ∙ e in
            record { in_range = omega arith; kept = kept_on block (accepted (records_in block)) records f; its = cc }
      ]
