-- Laws of the report's text: that of entries after others, that no line has more than 83 bytes, and that a report without text has no entry.
use mathlib.Core.Path.{◌≡◌, refl, sym, ◌∙◌, ap}
use mathlib.Core.Bool.{Bool, true, false, cond}
use mathlib.Core.List.{List, [], ◌∷◌, ◌++◌, append_assoc}
use Prim.Native.Nat.{ℕ, ◌≤◌}
use native.Mathlib.Omega.{arith}
use lib.Dec.{eqb, ltb}
use lib.ListN.{length, length-append}
use Rattle.check_verdicts.specs.Verdicts.{number_of, Verdict, accepted, refused}
use Rattle.block_parts.specs.Parts.{number_in}
use Rattle.text_put.proofs.Decimals.{decimal_at_most}
use Rattle.file_rescued.specs.Rescues.{Entry, dropped, moved, stray, entries_by}
use Rattle.text_report.specs.ReportText.{entry_text, report_text}

pub text_split : (first rest : List Entry) → report_text (first ++ rest) ≡ report_text first ++ report_text rest
unfolding report_text
text_split [] rest = refl
text_split (entry ∷ entries) rest =
    ap (λ (l : List ℕ). entry_text entry ++ l) (text_split entries rest) ∙ sym (append_assoc (entry_text entry) (report_text entries) (report_text rest))

entry_at_most : (entry : Entry) → length (entry_text entry) ≤ 83
entry_at_most (dropped place fault) = simp length-append (omega (arith, decimal_at_most place, decimal_at_most (number_of fault)))
entry_at_most (moved place old new) = simp length-append (omega (arith, decimal_at_most place, decimal_at_most old, decimal_at_most new))
entry_at_most (stray count) = simp length-append (omega (arith, decimal_at_most count))

one_line : (entry : Entry) → length (report_text (entry ∷ [])) ≤ 83
unfolding report_text
one_line entry = omega (arith, length-append (entry_text entry) [], entry_at_most entry)

no_line : length (report_text []) ≤ 83
unfolding report_text
no_line = omega arith

-- what is said of one block is a line at most
pub entries_at_most : (place number : ℕ) (portion : List ℕ) (v : Verdict (List ℕ)) → length (report_text (entries_by place number portion v)) ≤ 83
entries_at_most place number portion (accepted kept) = by (eqb (number_in portion) number)
  where
    by : (b : Bool) → length (report_text (cond b [] (moved place (number_in portion) number ∷ []))) ≤ 83
    by true = no_line
    by false = one_line (moved place (number_in portion) number)
entries_at_most place number portion (refused fault) = one_line (cond (ltb (length portion) 512) (stray (length portion)) (dropped place fault))

-- every entry has a line, so that an empty text is that of an empty report
entry_some : (entry : Entry) → 1 ≤ length (entry_text entry)
entry_some (dropped place fault) = simp length-append (omega arith)
entry_some (moved place old new) = simp length-append (omega arith)
entry_some (stray count) = simp length-append (omega arith)

pub text_none : (entries : List Entry) → length (report_text entries) ≡ 0 → entries ≡ []
unfolding report_text
text_none [] e = refl
text_none (entry ∷ entries) e = absurd (omega (arith, entry_some entry, length-append (entry_text entry) (report_text entries)))
