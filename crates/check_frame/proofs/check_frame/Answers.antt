-- What the checks of the codes refuse is refused; what is left is check 3, with the duration's own numbers.
use mathlib.Core.Path.{◌≡◌, refl, sym, ◌∙◌, ap}
use Prim.Native.Nat.{ℕ, zero, suc}
use Rattle.std.proofs.Common.{rules}
use Rattle.std.specs.Prelude.{Err}
use Rattle.check_verdicts.specs.Verdicts.{Verdict, accepted, refused, no_fault, verdict_by}
use Rattle.check_refusals.specs.Refusals.{says}
use Rattle.check_side.specs.Sides.{code_checks}
use Rattle.check_verdicts.proofs.Verdicts.{settle}
use Rattle.check_side.proofs.Sides.{codes_settle}
use Rattle.row_durations.specs.Durations.{duration_of}
use Rattle.row_durations.specs.declared.Duration.{Duration}
use Rattle.row_durations.specs.declared.Duration.TheVariants.{Ten, SevenPointFive}
use Rattle.row_bands.specs.declared.Row.{Row}
use Rattle.check_frame.specs.Frames.{frame_of, frame_checks, length_check}
use Rattle.row_bands.specs.Bands.{row_of}
use Rattle.check_frame.proofs.check_frame.Goals as goal

module _ (duration bandwidth lines : ℕ) where
  abbrev by_length : Duration → Verdict Row
  by_length d = length_check d bandwidth lines (accepted (row_of d bandwidth))

  codes_first : (codes : Verdict (Unit {0})) → codes ≡ code_checks duration bandwidth no_fault → settle codes (by_length (duration_of duration)) ≡ frame_of duration bandwidth lines
  unfolding frame_of frame_checks
  codes_first codes e = ap (λ (v : Verdict (Unit {0})). settle v (by_length (duration_of duration))) e ∙ sym (codes_settle duration bandwidth (by_length (duration_of duration)))

  length_left : no_fault ≡ code_checks duration bandwidth no_fault → (d : Duration) → d ≡ duration_of duration → length_check d bandwidth lines (accepted (row_of d bandwidth)) ≡ frame_of duration bandwidth lines
  length_left codes d e = ap by_length e ∙ codes_first no_fault codes

ten : (duration : ℕ) → duration ≡ 0 → Ten ≡ duration_of duration
ten duration e = rw e refl

seven_point_five : (duration : ℕ) → (duration ≡ 0 → ⊥) → SevenPointFive ≡ duration_of duration
seven_point_five zero e = absurd (e refl)
seven_point_five (suc duration) e = refl

pub returns-in_err-check_codes : goal.returns-in_err-check_codes
returns-in_err-check_codes c =
    let why = c.in_err-check_codes.field-0.0 in
    let same : c.from_residual.result ≡ Err why = search rules in
    ap (verdict_by says) same ∙ codes_first c.args.duration c.args.bandwidth c.args.lines (refused (says why)) c.in_err-check_codes.ensures

pub returns-then-duration-eq0 : goal.returns-then-duration-eq0
returns-then-duration-eq0 c =
    c.frame_of.ensures
    ∙ length_left c.args.duration c.args.bandwidth c.args.lines c.in_ok-check_codes.ensures Ten (ten c.args.duration c.if-duration-eq0.true)

pub returns : goal.returns
returns c =
    c.frame_of-2.ensures
    ∙ length_left c.args.duration c.args.bandwidth c.args.lines c.in_ok-check_codes.ensures SevenPointFive (seven_point_five c.args.duration c.if-duration-eq0.false)
