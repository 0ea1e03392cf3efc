-- Any two results that a contract allows for one input coincide: the law of `law_results`, cited for each public function of this crate.
use Rattle.law_results.proofs.Determined.{Determined, itself}
use Rattle.row_durations.proofs.duration_of.Kinds as duration-of-kinds
use Rattle.row_durations.proofs.duration_of.Reads as duration-of-reads
use Rattle.row_durations.proofs.longest.Kinds as longest-kinds
use Rattle.row_durations.proofs.longest.Reads as longest-reads
use Rattle.row_durations.proofs.lpc_weighting.Kinds as lpc-weighting-kinds
use Rattle.row_durations.proofs.lpc_weighting.Reads as lpc-weighting-reads

duration_of_lem : Determined 0 duration-of-kinds.ps duration-of-kinds.r duration-of-reads.Post
duration_of_lem κs a x y s t p q = itself p q

longest : Determined 0 longest-kinds.ps longest-kinds.r longest-reads.Post
longest κs a x y s t p q = itself p q

lpc_weighting : Determined 0 lpc-weighting-kinds.ps lpc-weighting-kinds.r lpc-weighting-reads.Post
lpc_weighting κs a x y s t p q = itself p q
