-- A fault; no number left; or the block with its number and fresh sums.
use Rattle.std.proofs.Common.{◌≡◌, sym, ◌∙◌, ap, List, ◌++◌, ℕ, ◌≤◌, length, take, arith, Result}
use lib.ListN.{length-take}
use Rattle.law_lists.specs.Places.{part}
use Rattle.check_verdicts.specs.Verdicts.{Verdict, verdict_by, accepted, unless_refused, on_accepted}
use Rattle.block_numbers.specs.Words.{word_bytes}
use Rattle.block_parts.specs.Parts.{number_in, sum_bytes}
use Rattle.block_check.specs.Told.{block_fault}
use Rattle.block_check.specs.declared.check.BlockRefusal.{BlockRefusal}
use Rattle.block_check.proofs.Verdicts.{MadeFrom, accepted_too}
use Rattle.block_kept.specs.Kept.{kept_verdict}
use Rattle.block_kept.proofs.Kept.{own_first, kept_long}
use Rattle.block_rescue.specs.Rescue.{renumbered, rescue_verdict, RescueDone}
use Rattle.block_rescue.proofs.Rescue.{takes_number}
use Rattle.block_rescue.proofs.rescue_block.Goals as goal

-- what was done, by the step's verdict
by_verdict : {number : ℕ} {block found left : List ℕ} {result : Result ℕ BlockRefusal} (v : Verdict (List ℕ)) → rescue_verdict number block ≡ v
    → verdict_by block_fault result ≡ on_accepted (λ _. number_in block) v → left ≡ unless_refused v (λ becomes. becomes) found → RescueDone number block found left result
by_verdict {number} {block} {found} {left} {result} v e answer bytes =
    record {
      answer = answer ∙ ap (on_accepted (λ _. number_in block)) (sym e);
      bytes = bytes ∙ ap (λ (w : Verdict (List ℕ)). unless_refused w (λ becomes. becomes) found) (sym e);
    }

-- the block as the one of this number
made : (number : ℕ) (kept block left : List ℕ) → kept ≡ block → left ≡ word_bytes number ++ part 2 508 kept ++ sum_bytes (word_bytes number ++ part 2 508 kept)
    → left ≡ renumbered number block
unfolding renumbered
made number kept block left e f = f ∙ ap (renumbered number) e

-- what the checks of a block that is kept answered
module _ (bytes : List ℕ) (own : ℕ) (says : accepted own ≡ on_accepted (λ _. number_in bytes) (kept_verdict (take 512 bytes))) where
  kept : MadeFrom (λ _. number_in bytes) (kept_verdict (take 512 bytes)) own
  kept = accepted_too _ _ _ says

  long : 512 ≤ length bytes
  long = omega (arith, kept_long (take 512 bytes) kept.of kept.verdict, length-take 512 bytes)

pub slice_bounds-copy_from_slice-end-2 : goal.slice_bounds-copy_from_slice-end-2
slice_bounds-copy_from_slice-end-2 c = omega (arith, long c.args.bytes.now c.in_ok-own.own c.in_ok-own.ensures, length-take 512 c.args.bytes.now)

pub copy_from_slice-requires : goal.copy_from_slice-requires
copy_from_slice-requires c = omega (arith, long c.args.bytes.now c.in_ok-own.own c.in_ok-own.ensures, length-take 512 c.args.bytes.now)

pub returns : goal.returns
returns c =
    let bytes = c.args.bytes.now in
    let own = kept bytes c.in_ok-own.own c.in_ok-own.ensures in
    let number = c.in-Ok.ensures in
    by_verdict _ (takes_number c.args.number (take 512 bytes) own.of own.verdict (omega (arith, number.0)))
    (ap accepted (own.made_of ∙ sym (own_first bytes)))
    (made c.in-Ok.number _ (take 512 bytes) c.numbered.result c.copy_from_slice.ensures.after c.numbered.ensures ∙ ap (λ (n : ℕ). renumbered n (take 512 bytes)) number.1)
