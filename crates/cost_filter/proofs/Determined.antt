-- Any two results that a contract allows for one input coincide: the law of `law_results`, cited for `filter_cost` and `whole_bits`.
use Rattle.law_results.proofs.Determined.{Determined, itself}
use Rattle.cost_filter.proofs.filter_cost.Kinds as filter-cost-kinds
use Rattle.cost_filter.proofs.filter_cost.Reads as filter-cost-reads
use Rattle.cost_filter.proofs.whole_bits.Kinds as whole-bits-kinds
use Rattle.cost_filter.proofs.whole_bits.Reads as whole-bits-reads

filter_cost_lem : Determined 2 filter-cost-kinds.ps filter-cost-kinds.r filter-cost-reads.Post
filter_cost_lem κs a x y s t p q = itself p.cost q.cost

whole_bits_lem : Determined 0 whole-bits-kinds.ps whole-bits-kinds.r whole-bits-reads.Post
whole_bits_lem κs a x y s t p q = itself p.bits q.bits
