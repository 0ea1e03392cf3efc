-- What `tns_encode` promises.
use Rattle.std.specs.Prelude.{◌≡◌, List, ℕ, ◌≤◌, Float}
use Rattle.check_verdicts.specs.Verdicts.{Verdict, unless_refused, IfAccepted, its_bits}
use Rattle.row_bands.specs.declared.Row.{Row}
use Rattle.side_data.specs.Side.{bytes_in, coefficients_in}
use Rattle.side_data.specs.declared.SideData.{SideData}
use Rattle.side_near.specs.NearExact.{NearExact}
use Rattle.shape_gain.specs.Gains.{gain_numbers, on_numbers}
use Rattle.shape_gain.specs.declared.Gains.{Gains}
use Rattle.call_encode.specs.Encoder.{bits_verdict, side_in, lines_after}
use Rattle.answer_call.specs.Answers.{answer_for}
use Rattle.answer_call.specs.declared.Answer.{Answer}

-- a caller's five lists, as a call finds them or leaves them: the spectrum, the 20 bytes of side data, the coefficients, gain and damping of both
-- filters, and whether each is on
pub record Lent : Type 0 where
  pub lines : List Float
  pub bytes : List ℕ
  pub coefficients : List Float
  pub gains : List Float
  pub on : List ℕ

-- By the verdict on the frame, whose bands are those of a row, and the gains that its analysis gives: the answer, and what each list holds. An
-- accepted call writes all five, and a refused one leaves them as it found them. Then demand 3 of an accepted call, and that no answer has more
-- than 168 bits.
pub record TnsEncodes (verdict : Verdict SideData) (analysed : Gains) (row : Row) (found left : Lent) (result : Answer) : Type 0 where
  pub answer : result ≡ answer_for its_bits (bits_verdict verdict)
  pub lines : left.lines ≡ lines_after verdict row found.lines
  pub side : left.bytes ≡ unless_refused verdict bytes_in found.bytes
  pub coefficients : left.coefficients ≡ unless_refused verdict coefficients_in found.coefficients
  pub gains : left.gains ≡ unless_refused verdict (λ side. gain_numbers analysed) found.gains
  pub on : left.on ≡ unless_refused verdict (λ side. on_numbers analysed) found.on
  pub near : IfAccepted verdict (NearExact row (side_in verdict) found.lines left.lines)
  pub few_bits : result.bits ≤ 168

abbrev pub lent : List Float → List ℕ → List Float → List Float → List ℕ → Lent
lent lines bytes coefficients gains on = record { lines = lines; bytes = bytes; coefficients = coefficients; gains = gains; on = on }
