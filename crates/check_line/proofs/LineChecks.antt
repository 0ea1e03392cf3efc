-- Laws of refusals 16 and 17: what is known of a line and an output that they find no fault with, and what they make of a call at a line whose frame
-- and side data are sound.
use mathlib.Core.Path.{◌≡◌, refl, sym, ◌∙◌, ap, subst}
use mathlib.Core.Bool.{Bool, true, false, ◌||◌, not}
use mathlib.Core.List.{List}
use Prim.Native.Nat.{ℕ, ◌≤◌}
use native.Mathlib.Omega.{arith}
use lib.Dec.{ltb, eqb}
use lib.ListN.{length}
use borrow.Author.Tests.{ltb-false, eqb-true}
use Rattle.std.specs.Prelude.{Result, Ok, Err}
use Rattle.check_verdicts.specs.Verdicts.{Fault, Verdict, refused, no_fault, check, verdict_by}
use Rattle.check_side.specs.Sides.{SoundSide}
use Rattle.check_verdicts.proofs.Verdicts.{not_accepted}
use Rattle.row_durations.specs.Durations.{duration_of}
use Rattle.row_bands.specs.Bands.{last_stop}
use Rattle.row_bands.specs.declared.Row.{Row}
use Rattle.row_bands.proofs.Bands.{SoundRow}
use Rattle.row_bands.proofs.Apart.{InTurn, row_in_turn}
use Rattle.check_coded.specs.CodedFrames.{CodedFrame, row_in, checks_of}
use Rattle.check_coded.proofs.CodedFrames.{PassedFrame, passed_checks}
use Rattle.check_line.specs.LineChecks.{line_checks, line_call_checks, checks_at_line, line_says}
use Rattle.check_line.specs.declared.LineRefusal.{LineRefusal}

-- what is known of a line and an output that they find no fault with
pub record SoundLine (row : Row) (lines n output : ℕ) : Type 0 where
  pub from_start : row.first.start ≤ n
  pub to_stop : n ≤ last_stop row
  pub as_long : output ≡ lines

module _ (row : Row) (lines n output : ℕ) where
  abbrev low : Bool
  low = ltb n row.first.start

  abbrev high : Bool
  high = ltb (last_stop row) n

  abbrev equal : Bool
  equal = eqb output lines

  pub sound_line : line_checks row lines n output no_fault ≡ no_fault → SoundLine row lines n output
  sound_line = cases low refl high refl equal refl
    where
      cases : (a : Bool) → low ≡ a → (b : Bool) → high ≡ b → (c : Bool) → equal ≡ c → check 16 (a || b) (check 17 (not c) no_fault) ≡ no_fault → SoundLine row lines n output
      cases true ea b eb c ec e = not_accepted e
      cases false ea true eb c ec e = not_accepted e
      cases false ea false eb false ec e = not_accepted e
      cases false ea false eb true ec e =
          record { from_start = ltb-false n row.first.start ea; to_stop = ltb-false (last_stop row) n eb; as_long = eqb-true output lines ec }

-- Behind the checks of a call at a line this may be relied on.
pub record Ready (row : Row) (filters : ℕ) (orders indices : List ℕ) (lines n output : ℕ) : Type 0 where
  pub bands : SoundRow row lines
  pub in_turn : InTurn row.first row.second
  pub side_data : SoundSide filters orders indices
  pub as_long : output ≡ lines
  pub there : n ≤ lines

-- What is known of a call at a line that all its checks find no fault with, and of the row that they answer.
pub record PassedLine (f : CodedFrame) (row : Row) (n output : ℕ) : Type 0 where
  pub frame : PassedFrame f row
  pub ready : Ready row f.filters f.orders f.indices (length f.spectrum) n output
  pub no_fault_lem : no_fault ≡ checks_at_line f n output

module _ (f : CodedFrame) (n output : ℕ) where
  -- a frame or side data that are refused
  pub refused_at_line : {why : Fault} → ((next : Verdict (Unit {0})) → refused why ≡ checks_of f next) → refused why ≡ checks_at_line f n output
  unfolding line_call_checks
  refused_at_line e = e (line_checks (row_in f) (length f.spectrum) n output no_fault)

  -- past those the line and the output decide
  module _ {row : Row} (p : PassedFrame f row) where
    decides : line_checks row (length f.spectrum) n output no_fault ≡ checks_at_line f n output
    unfolding line_call_checks
    decides =
        ap (λ (r : Row). line_checks r (length f.spectrum) n output no_fault) p.its_row ∙ sym (p.goes_on (line_checks (row_in f) (length f.spectrum) n output no_fault))

    pub line_refuses : {answer : Result (Unit {0}) LineRefusal} {why : LineRefusal} → answer ≡ Err why
        → verdict_by line_says answer ≡ line_checks row (length f.spectrum) n output no_fault → refused (line_says why) ≡ checks_at_line f n output
    line_refuses e told = sym (ap (verdict_by line_says) e) ∙ told ∙ decides

    pub line_passes : {answer : Result (Unit {0}) LineRefusal} → answer ≡ Ok tt → verdict_by line_says answer ≡ line_checks row (length f.spectrum) n output no_fault → PassedLine f row n output
    line_passes e told =
        let sound = sound_line row (length f.spectrum) n output (sym told ∙ ap (verdict_by line_says) e) in
        record {
          frame = p;
          ready = record {
            bands = p.bands;
            in_turn = subst (λ (r : Row). InTurn r.first r.second) (sym p.its_row) (row_in_turn (duration_of f.duration) f.bandwidth);
            side_data = p.side_data;
            as_long = sound.as_long;
            there = omega (arith, sound.to_stop, p.bands.first_fits.end, p.bands.second_fits.end);
          };
          no_fault_lem = sym (ap (verdict_by line_says) e) ∙ told ∙ decides;
        }

  -- the same of a call whose checks find no fault
  pub passed_at_line : no_fault ≡ checks_at_line f n output → PassedLine f (row_in f) n output
  unfolding line_call_checks
  passed_at_line e =
      let both = passed_checks f (line_checks (row_in f) (length f.spectrum) n output no_fault) (sym e) in
      line_passes both.0 {answer = Ok tt} refl (sym both.1)
