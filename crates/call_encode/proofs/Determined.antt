-- Any two results that a contract allows for one input coincide: the law of `law_results`, cited for `encode`, and with it what is left in the
-- lines that were lent. The logic has one NaN, so of a line or a gain that is a NaN the bits are left open.
use Prim.Native.Nat.{ℕ}
use Rattle.std.specs.Prelude.{Result}
use mathlib.Core.List.{List}
use lib.Ieee.{Float}
use Rattle.check_refusals.specs.declared.Refusal.{Refusal}
use Rattle.law_results.proofs.Determined.{DeterminedWith, of_parts, itself}
use Rattle.check_refusals.proofs.Determined.{by_verdict}
use Rattle.side_data.specs.declared.SideData.{SideData}
use Rattle.shape_gain.specs.declared.Gains.{Gains}
use Rattle.call_encode.specs.declared.Encoded.{Encoded}
use Rattle.call_encode.proofs.encode.Kinds as encode-kinds
use Rattle.call_encode.proofs.encode.Reads as encode-reads

-- the answer, and the side data and the gains beside it
abbrev encoded : Result ℕ Refusal → SideData × Gains → Encoded
encoded answer beside = record { answer = answer; side = beside.0; gains = beside.1 }

abbrev both : SideData → Gains → SideData × Gains
both side gains = (side, gains)

encode : DeterminedWith 1 encode-kinds.ps encode-kinds.r encode-reads.Post (List Float) (λ κs s. s.1.1.1.1.0.now)
encode κs a x y s t p q = (
  of_parts encoded (by_verdict p.answer q.answer)
      (of_parts both (itself p.side q.side) (itself p.gains q.gains)),
  itself p.lines q.lines,
)
