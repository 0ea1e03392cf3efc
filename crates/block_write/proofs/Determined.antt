-- Any two results that a contract allows for one input coincide: the law of `law_results`, cited for `write_block`. What it leaves in the buffer
-- coincides too.
use mathlib.Core.List.{List}
use Prim.Native.Nat.{ℕ}
use Rattle.law_results.proofs.Determined.{DeterminedWith, coincide, itself}
use Rattle.check_verdicts.specs.Verdicts.{verdict_by}
use Rattle.check_verdicts.proofs.Verdicts.{verdict_back, verdict_again}
use Rattle.block_check.specs.Told.{block_fault}
use Rattle.block_check.proofs.Determined.{refusal_back, refusal_back_lem}
use Rattle.block_write.proofs.write_block.Kinds as write-block-kinds
use Rattle.block_write.proofs.write_block.Reads as write-block-reads

write_block : DeterminedWith 2 write-block-kinds.ps write-block-kinds.r write-block-reads.Post (List ℕ) (λ κs s. s.1.1.0.now)
write_block κs a x y s t p q = (coincide (verdict_by block_fault) (verdict_back refusal_back) (verdict_again block_fault refusal_back refusal_back_lem) p.answer q.answer, itself p.bytes q.bytes)
