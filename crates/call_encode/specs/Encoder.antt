-- The encode call, in the order in which a frame goes through it: its checks, its weighting, its side data and gains, the lines through the filters of
-- the side data, and the answer.
use Rattle.std.specs.Prelude.{◌≡◌, Bool, List, ℕ, ◌≤◌, length, Float, Err}
use Rattle.check_verdicts.specs.Verdicts.{Verdict, accepted, unless_refused, verdict_by, on_accepted, IfAccepted, bits_in, its_bits}
use Rattle.check_refusals.specs.Refusals.{says}
use Rattle.check_refusals.specs.declared.Refusal.{Refusal}
use Rattle.row_durations.specs.Durations.{numbers_of, duration_of, weighting_of}
use Rattle.row_bands.specs.Bands.{row_of}
use Rattle.row_bands.specs.declared.Row.{Row}
use Rattle.check_frame.specs.Frames.{frame_checks}
use Rattle.side_data.specs.Side.{bits_of, no_side}
use Rattle.side_data.specs.declared.SideData.{SideData}
use Rattle.side_encoded.specs.SideFilters.{filtered_by}
use Rattle.side_near.specs.NearExact.{NearExact}
use Rattle.shape_gain.specs.Gains.{no_gains}
use Rattle.shape_gain.specs.declared.Gains.{Gains}
use Rattle.shape_frame.specs.FrameSide.{side_of, gains_of}
use Rattle.call_encode.specs.declared.Encoded.{Encoded}

-- the weighting of a call
abbrev pub weighting_in : ℕ → ℕ → ℕ
weighting_in duration nbits = weighting_of (numbers_of (duration_of duration)) nbits

-- refusals 1 to 3, in number order, or the side data
unfoldable pub encode_verdict : ℕ → ℕ → ℕ → Bool → List Float → Verdict SideData
encode_verdict duration bandwidth nbits flag lines =
    frame_checks duration bandwidth (length lines)
    (accepted (side_of (row_of (duration_of duration) bandwidth) lines flag (weighting_in duration nbits)))

-- the side data of an accepted call; a refusal gives no other results
abbrev pub side_in : Verdict SideData → SideData
side_in verdict = unless_refused verdict (λ side. side) no_side

-- the gain, damping and on/off answer of both filters that the analysis of the call's lines gives
abbrev pub gains_found : ℕ → ℕ → ℕ → Bool → List Float → Gains
gains_found duration bandwidth nbits flag lines = gains_of (row_of (duration_of duration) bandwidth) lines flag (weighting_in duration nbits)

-- those of an accepted call; a refusal gives no other results
abbrev pub gains_in : Verdict SideData → Gains → Gains
gains_in verdict analysed = unless_refused verdict (λ side. analysed) no_gains

-- the lines through both filters of the side data, each in its band of the row; on a refusal the lines that came in
abbrev pub lines_after : Verdict SideData → Row → List Float → List Float
lines_after verdict row lines = unless_refused verdict (λ side. filtered_by side row lines) lines

unfoldable pub spectrum_encoded : ℕ → ℕ → ℕ → Bool → List Float → List Float
spectrum_encoded duration bandwidth nbits flag lines = lines_after (encode_verdict duration bandwidth nbits flag lines) (row_of (duration_of duration) bandwidth) lines

-- the answer: the bits of the side data, or the refusal
abbrev pub bits_verdict : Verdict SideData → Verdict ℕ
bits_verdict verdict = on_accepted bits_of verdict

-- What the call promises, by the verdict on its frame and the gains that its analysis gives: the answer, the side data and the gains beside it, the
-- lines that it leaves of those that it finds in the bands of the row, demand 3 of an accepted call, and that no answer has more than 168 bits.
pub record Encodes (verdict : Verdict SideData) (analysed : Gains) (row : Row) (found left : List Float) (result : Encoded) : Type 0 where
  pub answer : verdict_by says result.answer ≡ bits_verdict verdict
  pub side : result.side ≡ side_in verdict
  pub gains : result.gains ≡ gains_in verdict analysed
  pub lines : left ≡ lines_after verdict row found
  pub near : IfAccepted verdict (NearExact row (side_in verdict) found left)
  pub few_bits : bits_in its_bits (verdict_by says result.answer) ≤ 168

-- ---- what inner contracts cite; no public promise rests on these names

-- what a refused call gives
abbrev pub refused_with : Refusal → Encoded
refused_with why = record { answer = Err why; side = no_side; gains = no_gains }

-- what becomes of a sound frame of some side data and gains
pub record RowEncodes (its : SideData) (analysed : Gains) (row : Row) (found left : List Float) (result : Encoded) : Type 0 where
  pub answer : verdict_by says result.answer ≡ accepted (bits_of its)
  pub side : result.side ≡ its
  pub gains : result.gains ≡ analysed
  pub lines : left ≡ filtered_by its row found
