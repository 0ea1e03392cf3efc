-- Any two results that a contract allows for one input coincide: the law of `law_results`, cited for each public function of this crate.
use Rattle.check_verdicts.specs.Verdicts.{verdict_by}
use Rattle.check_verdicts.proofs.Verdicts.{verdict_back, verdict_again}
use Rattle.law_results.proofs.Determined.{Determined, coincide}
use Rattle.block_check.specs.Told.{block_fault}
use Rattle.block_check.proofs.Determined.{refusal_back, refusal_back_lem}
use Rattle.block_kept.proofs.check_kept.Kinds as check-kept-kinds
use Rattle.block_kept.proofs.check_kept.Reads as check-kept-reads

check_kept : Determined 1 check-kept-kinds.ps check-kept-kinds.r check-kept-reads.Post
check_kept κs a x y s t p q = coincide (verdict_by block_fault) (verdict_back refusal_back) (verdict_again block_fault refusal_back refusal_back_lem) p q
