-- Any two results that a contract allows for one input coincide: the law of `law_results`, cited for each public function.
-- The logic has one NaN, so of a number that is a NaN the bits are left open.
use Rattle.law_results.proofs.Determined.{Determined, itself}
use Rattle.shape_gain.proofs.gain_record.Kinds as gain-record-kinds
use Rattle.shape_gain.proofs.gain_record.Reads as gain-record-reads
use Rattle.shape_gain.proofs.absent_gain.Kinds as absent-gain-kinds
use Rattle.shape_gain.proofs.absent_gain.Reads as absent-gain-reads
use Rattle.shape_gain.proofs.gain_numbers.Kinds as gain-numbers-kinds
use Rattle.shape_gain.proofs.gain_numbers.Reads as gain-numbers-reads
use Rattle.shape_gain.proofs.on_numbers.Kinds as on-numbers-kinds
use Rattle.shape_gain.proofs.on_numbers.Reads as on-numbers-reads

gain_record : Determined 0 gain-record-kinds.ps gain-record-kinds.r gain-record-reads.Post
gain_record κs a x y s t p q = itself p q

absent_gain : Determined 0 absent-gain-kinds.ps absent-gain-kinds.r absent-gain-reads.Post
absent_gain κs a x y s t p q = itself p q

gain_numbers : Determined 0 gain-numbers-kinds.ps gain-numbers-kinds.r gain-numbers-reads.Post
gain_numbers κs a x y s t p q = itself p q

on_numbers : Determined 0 on-numbers-kinds.ps on-numbers-kinds.r on-numbers-reads.Post
on_numbers κs a x y s t p q = itself p q
