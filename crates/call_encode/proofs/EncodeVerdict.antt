-- What the checks of a frame make of the encode call: a refusal is the call's, and past them the row is the frame's and the side data its
-- analysis's. From either follows all that the call promises.
use mathlib.Core.Path.{◌≡◌, refl, sym, ◌∙◌, ap, subst}
use mathlib.Core.Bool.{Bool}
use mathlib.Core.List.{List}
use Prim.Native.Nat.{ℕ, ◌≤◌}
use native.Mathlib.Omega.{arith}
use lib.Ieee.{Float}
use lib.ListN.{length}
use Rattle.check_verdicts.specs.Verdicts.{Fault, Verdict, accepted, refused, bits_in, its_bits, verdict_by}
use Rattle.check_refusals.specs.Refusals.{says}
use Rattle.row_durations.specs.Durations.{duration_of}
use Rattle.row_bands.specs.Bands.{row_of}
use Rattle.row_bands.specs.declared.Row.{Row}
use Rattle.check_frame.specs.Frames.{frame_of}
use Rattle.check_frame.proofs.Frames.{refused_frame, passed_frame}
use Rattle.side_data.specs.Side.{bits_of, no_side}
use Rattle.side_data.specs.declared.SideData.{SideData}
use Rattle.side_encoded.specs.SideFilters.{filtered_by}
use Rattle.side_near.specs.NearExact.{NearExact}
use Rattle.shape_gain.specs.Gains.{no_gains}
use Rattle.shape_gain.specs.declared.Gains.{Gains}
use Rattle.shape_frame.specs.FrameSide.{side_of, gains_of}
use Rattle.call_encode.specs.Encoder.{weighting_in, encode_verdict, Encodes}
use Rattle.call_encode.specs.declared.Encoded.{Encoded}

module _ (duration bandwidth nbits : ℕ) (flag : Bool) (lines : List Float) where
  abbrev side : SideData
  side = side_of (row_of (duration_of duration) bandwidth) lines flag (weighting_in duration nbits)

  pub frame_refused : (why : Fault) → refused why ≡ frame_of duration bandwidth (length lines) → encode_verdict duration bandwidth nbits flag lines ≡ refused why
  unfolding encode_verdict
  frame_refused why e = refused_frame duration bandwidth (length lines) (accepted side) why e

  pub frame_passed : (row : Row) → accepted row ≡ frame_of duration bandwidth (length lines)
      → (row ≡ row_of (duration_of duration) bandwidth)
      × (encode_verdict duration bandwidth nbits flag lines ≡ accepted (side_of (row_of (duration_of duration) bandwidth) lines flag (weighting_in duration nbits)))
  unfolding encode_verdict
  frame_passed row e = passed_frame duration bandwidth (length lines) (accepted side) row e

-- the bits that an answer says
few : (said verdict : Verdict ℕ) → said ≡ verdict → bits_in its_bits verdict ≤ 168 → bits_in its_bits said ≤ 168
few said verdict e h = subst (λ (v : Verdict ℕ). bits_in its_bits v ≤ 168) (sym e) h

-- a refused frame: the refusal, no side data, no gains, the lines that came in
pub encodes_refused : (why : Fault) (analysed : Gains) (row : Row) (lines : List Float) (result : Encoded) → verdict_by says result.answer ≡ refused why
    → result.side ≡ no_side → result.gains ≡ no_gains → Encodes (refused why) analysed row lines lines result
encodes_refused why analysed row lines result said no-side no-gains =
    record { answer = said; side = no-side; gains = no-gains; lines = refl; near = tt; few_bits = few _ (refused why) said (omega arith) }

-- an accepted frame, whose row and weighting are the call's: the bits, the side data and the gains of its filters, its bands filtered, near the exact
-- lines
pub encodes_accepted : (row own : Row) (flag : Bool) (w weighting : ℕ) (found left : List Float) (result : Encoded) → row ≡ own → w ≡ weighting
    → verdict_by says result.answer ≡ accepted (bits_of (side_of row found flag w)) → result.side ≡ side_of row found flag w
    → result.gains ≡ gains_of row found flag w → left ≡ filtered_by (side_of row found flag w) row found
    → NearExact own (side_of own found flag weighting) found (filtered_by (side_of own found flag weighting) own found) → bits_of (side_of own found flag weighting) ≤ 168
    → Encodes (accepted (side_of own found flag weighting)) (gains_of own found flag weighting) own found left result
encodes_accepted row own flag w weighting found left result same_row same-weighting said its analysed filtered near bound =
    let s = side_of own found flag weighting in
    let same : side_of row found flag w ≡ s = rw (same_row, same-weighting) in
    let answer = said ∙ ap (λ (s : SideData). accepted (bits_of s)) same in
    let lines : left ≡ filtered_by s own found = filtered ∙ rw (same, same_row) in
    record {
      answer = answer;
      side = its ∙ same;
      gains = analysed ∙ rw (same_row, same-weighting);
      lines = lines;
      near = subst (NearExact own s found) (sym lines) near;
      few_bits = few _ (accepted (bits_of s)) answer bound;
    }
