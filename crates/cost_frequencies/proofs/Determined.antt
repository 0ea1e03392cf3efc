-- Any two results that a contract allows for one input coincide: the law of `law_results`, cited for each public function of this crate.
use Rattle.law_results.proofs.Determined.{Determined, itself}
use Rattle.cost_frequencies.proofs.coef_cumfreq.Kinds as coef-cumfreq-kinds
use Rattle.cost_frequencies.proofs.coef_cumfreq.Reads as coef-cumfreq-reads
use Rattle.cost_frequencies.proofs.coef_freq.Kinds as coef-freq-kinds
use Rattle.cost_frequencies.proofs.coef_freq.Reads as coef-freq-reads
use Rattle.cost_frequencies.proofs.order_cumfreq.Kinds as order-cumfreq-kinds
use Rattle.cost_frequencies.proofs.order_cumfreq.Reads as order-cumfreq-reads
use Rattle.cost_frequencies.proofs.order_freq.Kinds as order-freq-kinds
use Rattle.cost_frequencies.proofs.order_freq.Reads as order-freq-reads

coef_cumfreq_lem : Determined 0 coef-cumfreq-kinds.ps coef-cumfreq-kinds.r coef-cumfreq-reads.Post
coef_cumfreq_lem κs a x y s t p q = itself p q

coef_freq_lem : Determined 0 coef-freq-kinds.ps coef-freq-kinds.r coef-freq-reads.Post
coef_freq_lem κs a x y s t p q = itself p q

order_cumfreq_lem : Determined 0 order-cumfreq-kinds.ps order-cumfreq-kinds.r order-cumfreq-reads.Post
order_cumfreq_lem κs a x y s t p q = itself p q

order_freq_lem : Determined 0 order-freq-kinds.ps order-freq-kinds.r order-freq-reads.Post
order_freq_lem κs a x y s t p q = itself p q
