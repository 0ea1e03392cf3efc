-- C-15: the bits of an accepted encode call round each counted filter of its side data up on its own, by the law of cost_call.
use mathlib.Core.Path.{◌≡◌, sym, ◌∙◌, ap}
use mathlib.Core.List.{List}
use Prim.Native.Nat.{ℕ}
use lib.Ieee.{Float}
use Rattle.check_verdicts.specs.Verdicts.{Verdict, accepted, refused, verdict_by}
use Rattle.check_refusals.specs.Refusals.{says}
use Rattle.check_verdicts.proofs.Verdicts.{not_accepted}
use Rattle.row_bands.specs.declared.Row.{Row}
use Rattle.cost_call.specs.Cost.{each_rounded}
use Rattle.side_data.specs.Side.{bits_of}
use Rattle.side_data.specs.declared.SideData.{SideData}
use Rattle.side_data.proofs.Rounded.{costs_in, side_rounded}
use Rattle.shape_gain.specs.declared.Gains.{Gains}
use Rattle.call_encode.specs.Encoder.{bits_verdict, side_in, Encodes}
use Rattle.call_encode.specs.declared.Encoded.{Encoded}

reported : (verdict : Verdict SideData) (bits : ℕ) → accepted bits ≡ bits_verdict verdict → bits ≡ each_rounded (costs_in (side_in verdict))
reported (accepted side) bits e = let same : bits ≡ bits_of side = cc in same ∙ side_rounded side
reported (refused fault) bits e = not_accepted (sym e)

pub encode_rounded : (verdict : Verdict SideData) (analysed : Gains) (row : Row) (found left : List Float) (result : Encoded)
    → Encodes verdict analysed row found left result → (bits : ℕ) → accepted bits ≡ verdict_by says result.answer → bits ≡ each_rounded (costs_in result.side)
encode_rounded verdict analysed row found left result promise bits e =
    reported verdict bits (e ∙ promise.answer) ∙ ap (λ (side : SideData). each_rounded (costs_in side)) (sym promise.side)
