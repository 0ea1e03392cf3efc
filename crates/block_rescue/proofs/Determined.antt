-- Any two results that a contract allows for one input coincide: the law of `law_results`, cited for each public function of this crate. What is
-- left in the buffer coincides too.
use mathlib.Core.List.{List}
use Prim.Native.Nat.{ℕ}
use Rattle.law_results.proofs.Determined.{DeterminedWith, coincide, itself}
use Rattle.check_verdicts.specs.Verdicts.{verdict_by}
use Rattle.check_verdicts.proofs.Verdicts.{verdict_back, verdict_again}
use Rattle.block_check.specs.Told.{block_fault}
use Rattle.block_check.proofs.Determined.{refusal_back, refusal_back_lem}
use Rattle.block_rescue.proofs.rescue_block.Kinds as rescue-block-kinds
use Rattle.block_rescue.proofs.rescue_block.Reads as rescue-block-reads

rescue_block : DeterminedWith 2 rescue-block-kinds.ps rescue-block-kinds.r rescue-block-reads.Post (List ℕ) (λ κs s. s.1.1.0.now)
rescue_block κs a x y s t p q = (coincide (verdict_by block_fault) (verdict_back refusal_back) (verdict_again block_fault refusal_back refusal_back_lem) p.answer q.answer, itself p.bytes q.bytes)
