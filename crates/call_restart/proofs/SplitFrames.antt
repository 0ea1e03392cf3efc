-- What save and restart leave of a coded frame, by what their checks come to: their promises, kept by a call that they refuse and by one that they
-- pass.
use mathlib.Core.Path.{◌≡◌, ◌∙◌, ap}
use mathlib.Core.List.{List, ◌++◌}
use Prim.Native.Nat.{ℕ}
use lib.Ieee.{Float}
use lib.ListN.{length, take}
use Rattle.std.specs.Prelude.{Result, Ok, Err}
use Rattle.check_verdicts.specs.Verdicts.{refused}
use Rattle.row_bands.specs.declared.Row.{Row}
use Rattle.check_coded.specs.CodedFrames.{CodedFrame}
use Rattle.check_line.specs.LineChecks.{checks_at_line, line_says}
use Rattle.check_line.specs.declared.LineRefusal.{LineRefusal}
use Rattle.check_coded.proofs.CodedFrames.{left_alone, written}
use Rattle.check_line.proofs.LineChecks.{PassedLine}
use Rattle.side_split.specs.SplitRun.{states_before, lines_from, SavedRow}
use Rattle.call_decode.proofs.DecodedFrames.{row_as_spectrum}
use Rattle.call_restart.specs.Restart.{Lent, lent_at_line, Saves, Restarts}

module _ (f : CodedFrame) (n : ℕ) where
  abbrev pub SavesFrame : Lent → Lent → Result (Unit {0}) LineRefusal → Type 0
  SavesFrame found left answer = Saves f.duration f.bandwidth f.filters f.orders f.indices f.spectrum n found left answer

  abbrev pub RestartsFrame : List Float → List Float → List Float → Result (Unit {0}) LineRefusal → Type 0
  RestartsFrame states found left answer = Restarts f.duration f.bandwidth f.filters f.orders f.indices f.spectrum n states found left answer

  module _ (found : Lent) where
    pub refused_save : {why : LineRefusal} → refused (line_says why) ≡ checks_at_line f n (length found.output) → SavesFrame found found (Err why)
    refused_save {why} e = record { answer = e; output = left_alone e _ found.output; states = left_alone e _ found.states }

    pub saved : {row : Row} → PassedLine f row n (length found.output) → {output states : List Float}
        → SavedRow n row f.filters f.orders f.indices f.spectrum output states → SavesFrame found (lent_at_line output states) (Ok tt)
    saved p run =
        record {
          answer = p.no_fault_lem;
          output = run.output ∙ row_as_spectrum f p.frame ∙ written p.no_fault_lem _ found.output;
          states = run.before
              ∙ ap (λ (r : Row). states_before n r f.filters f.orders f.indices f.spectrum) p.frame.its_row
              ∙ written p.no_fault_lem _ found.states;
        }

  module _ (states found : List Float) where
    pub refused_restart : {why : LineRefusal} → refused (line_says why) ≡ checks_at_line f n (length found) → RestartsFrame states found found (Err why)
    refused_restart {why} e = record { answer = e; output = left_alone e _ found }

    pub restarted : {row : Row} → PassedLine f row n (length found) → {left : List Float}
        → left ≡ take n found ++ lines_from n row f.filters f.orders f.indices states f.spectrum → RestartsFrame states found left (Ok tt)
    restarted p run =
        record {
          answer = p.no_fault_lem;
          output = run
              ∙ ap (λ (r : Row). take n found ++ lines_from n r f.filters f.orders f.indices states f.spectrum) p.frame.its_row
              ∙ written p.no_fault_lem _ found;
        }
