-- Any two results that a contract allows for one input coincide: the law of `law_results`, cited for each public function of this crate.
use Rattle.law_results.proofs.Determined.{Determined, itself}
use Rattle.answer_call.proofs.accepted.Kinds as accepted-kinds
use Rattle.answer_call.proofs.accepted.Reads as accepted-reads
use Rattle.answer_call.proofs.refused.Kinds as refused-kinds
use Rattle.answer_call.proofs.refused.Reads as refused-reads
use Rattle.answer_call.proofs.told_at_line.Kinds as told-at-line-kinds
use Rattle.answer_call.proofs.told_at_line.Reads as told-at-line-reads
use Rattle.answer_call.proofs.told_cost.Kinds as told-cost-kinds
use Rattle.answer_call.proofs.told_cost.Reads as told-cost-reads

accepted : Determined 0 accepted-kinds.ps accepted-kinds.r accepted-reads.Post
accepted κs a x y s t p q = itself p q

refused : Determined 0 refused-kinds.ps refused-kinds.r refused-reads.Post
refused κs a x y s t p q = itself p q

told_at_line : Determined 0 told-at-line-kinds.ps told-at-line-kinds.r told-at-line-reads.Post
told_at_line κs a x y s t p q = itself p q

told_cost : Determined 0 told-cost-kinds.ps told-cost-kinds.r told-cost-reads.Post
told_cost κs a x y s t p q = itself p q
