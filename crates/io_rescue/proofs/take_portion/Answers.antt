-- The block as it becomes, from its own buffer, and its line if its number is another; or nothing, and a line.
use Rattle.std.proofs.Common.{◌≡◌, ℕ, List, length, sym, ap, ◌∙◌, arith, add-one}
use Rattle.check_verdicts.specs.Verdicts.{Fault, numbered, number_of, Verdict, unless_refused}
use Rattle.block_check.specs.Told.{block_fault}
use Rattle.block_check.specs.declared.check.BlockRefusal.{BlockRefusal}
use Rattle.block_check.specs.declared.check.BlockRefusal.TheVariants.{Length, Sums, Layout, Record}
use Rattle.text_put.specs.Text.{after}
use Rattle.file_rescued.specs.Rescues.{entries_by, kept_entries, left_entries, next_by}
use Rattle.text_report.specs.ReportText.{report_text}
use Rattle.io_rescue.proofs.Buffered.{kept_there, not_there}
use Rattle.io_rescue.proofs.take_portion.Goals as goal

-- by the verdict
module _ (place number : ℕ) (portion : List ℕ) (room : ℕ) (out : List ℕ) (lines : ℕ) (report : List ℕ) {v w : Verdict (List ℕ)} (e : v ≡ w) where
  becomes : unless_refused w (after room out) out ≡ unless_refused v (after room out) out
  becomes = ap (λ (v : Verdict (List ℕ)). unless_refused v (after room out) out) (sym e)

  said : after lines report (report_text (entries_by place number portion w)) ≡ after lines report (report_text (entries_by place number portion v))
  said = ap (λ (v : Verdict (List ℕ)). after lines report (report_text (entries_by place number portion v))) (sym e)

  goes_on : next_by number w ≡ next_by number v
  goes_on = ap (next_by number) (sym e)

-- the fault of a block is its number
as_numbered : (why : BlockRefusal) (n : ℕ) → n ≡ number_of (block_fault why) → numbered n ≡ block_fault why
as_numbered Length n e = ap numbered e
as_numbered Sums n e = ap numbered e
as_numbered Layout n e = ap numbered e
as_numbered Record n e = ap numbered e

pub overflow_add-result : goal.overflow_add-result
overflow_add-result g c =
    let a = c.args in
    let step = c.rescue_block in
    omega (arith, (kept_there a.number a.portion.now _ step.new.block step.result c.requires _ c.in-Ok.is step.ensures).in_range)

pub returns-in-Err : goal.returns-in-Err
returns-in-Err g c =
    let a = c.args in
    let step = c.rescue_block in
    let e = not_there a.number a.portion.now _ step.new.block step.result c.requires _ c.in-Err.is step.ensures in
    record {
      bytes = becomes a.place a.number a.portion.now g.row.ROOM a.out.now g.row.LINES a.report.now e;
      said =
          c.put_left.ensures
          ∙ ap (λ (f : Fault). after g.row.LINES a.report.now (report_text (left_entries a.place (length a.portion.now) f))) (as_numbered c.in-Err.why _ c.number.ensures)
          ∙ said a.place a.number a.portion.now g.row.ROOM a.out.now g.row.LINES a.report.now e;
      next = goes_on a.place a.number a.portion.now g.row.ROOM a.out.now g.row.LINES a.report.now e;
    }

pub returns-in-Ok : goal.returns-in-Ok
returns-in-Ok g c =
    let a = c.args in
    let step = c.rescue_block in
    let k = kept_there a.number a.portion.now _ step.new.block step.result c.requires _ c.in-Ok.is step.ensures in
    record {
      bytes = c.put.ensures ∙ becomes a.place a.number a.portion.now g.row.ROOM a.out.now g.row.LINES a.report.now k.took;
      said =
          c.put_kept.ensures
          ∙ ap (λ (old : ℕ). after g.row.LINES a.report.now (report_text (kept_entries a.place old a.number))) (c.from.ensures ∙ k.number_was)
          ∙ said a.place a.number a.portion.now g.row.ROOM a.out.now g.row.LINES a.report.now k.took;
      next = add-one a.number ∙ goes_on a.place a.number a.portion.now g.row.ROOM a.out.now g.row.LINES a.report.now k.took;
    }
