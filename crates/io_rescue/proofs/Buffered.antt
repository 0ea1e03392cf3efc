-- What a step leaves in its buffer, of a portion that is kept and of one that is not.
use mathlib.Core.Path.{◌≡◌, sym, ◌∙◌, ap, subst}
use mathlib.Core.List.{List}
use Prim.Native.Nat.{ℕ, ◌≤◌}
use native.Mathlib.Omega.{arith}
use lib.ListN.{length, take}
use lib.Seq.{take_all}
use Rattle.std.specs.Prelude.{Result, Ok, Err}
use Rattle.check_verdicts.specs.Verdicts.{Verdict, accepted, refused, verdict_by, unless_refused}
use Rattle.block_parts.specs.Parts.{number_in}
use Rattle.block_check.specs.Told.{block_fault}
use Rattle.block_check.specs.declared.check.BlockRefusal.{BlockRefusal}
use Rattle.block_check.proofs.Verdicts.{refused_too, accepted_too}
use Rattle.block_kept.proofs.Kept.{kept_long}
use Rattle.block_rescue.specs.Rescue.{rescue_verdict, RescueDone}
use Rattle.block_rescue.proofs.Rescue.{renumbered_length, rescuable}

-- the block as it becomes, of a portion that is kept
pub record KeptThere (number : ℕ) (portion left : List ℕ) (own : ℕ) : Type 0 where
  pub took : rescue_verdict number portion ≡ accepted left
  pub long : length left ≡ 512
  pub in_range : number ≤ 65535
  pub number_was : own ≡ number_in portion

module _ (number : ℕ) (portion found left : List ℕ) (result : Result ℕ BlockRefusal) (few : length portion ≤ 512) where
  -- the portion is all that the step looks at
  on_portion : RescueDone number (take 512 portion) found left result → RescueDone number portion found left result
  on_portion done = subst (λ (p : List ℕ). RescueDone number p found left result) (take_all 512 portion few) done

  pub kept_there : (own : ℕ) → result ≡ Ok own → RescueDone number (take 512 portion) found left result → KeptThere number portion left own
  kept_there own e done =
      let its = on_portion done in
      let from = accepted_too (λ _. number_in portion) (rescue_verdict number portion) own (sym (ap (verdict_by block_fault) e) ∙ its.answer) in
      let same : left ≡ from.of = its.bytes ∙ ap (λ (v : Verdict (List ℕ)). unless_refused v (λ becomes. becomes) found) from.verdict in
      let block = rescuable number portion from.of from.verdict in
      let is : length portion ≡ 512 = omega (arith, kept_long portion _ block.kept) in
      record {
        took = from.verdict ∙ ap accepted (sym same);
        long = ap length (same ∙ block.its) ∙ renumbered_length number portion is;
        in_range = block.in_range;
        number_was = from.made_of;
      }

  pub not_there : (why : BlockRefusal) → result ≡ Err why → RescueDone number (take 512 portion) found left result → rescue_verdict number portion ≡ refused (block_fault why)
  not_there why e done = refused_too (λ _. number_in portion) (rescue_verdict number portion) _ (sym (ap (verdict_by block_fault) e) ∙ (on_portion done).answer)
