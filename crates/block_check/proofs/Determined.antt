-- Any two results that a contract allows for one input coincide: the law of `law_results`, cited for each public function of this crate.
use mathlib.Core.Path.{◌≡◌, refl}
use mathlib.Core.Bool.{cond}
use lib.Dec.{eqb}
use Rattle.check_verdicts.specs.Verdicts.{Fault, number_of, verdict_by}
use Rattle.check_verdicts.proofs.Verdicts.{verdict_back, verdict_again}
use Rattle.law_results.proofs.Determined.{Determined, coincide, itself}
use Rattle.block_check.specs.Told.{block_fault}
use Rattle.block_check.specs.declared.check.BlockRefusal.{BlockRefusal}
use Rattle.block_check.specs.declared.check.BlockRefusal.TheVariants.{Length, Sums, Layout, Record}
use Rattle.block_check.proofs.check.BlockRefusal.number.Kinds as number-kinds
use Rattle.block_check.proofs.check.BlockRefusal.number.Reads as number-reads
use Rattle.block_check.proofs.check.check_block.Kinds as check-block-kinds
use Rattle.block_check.proofs.check.check_block.Reads as check-block-reads

number : Determined 0 number-kinds.ps number-kinds.r number-reads.Post
number κs a x y s t p q = itself p q

-- the refusal of a block back from its fault
abbrev pub refusal_back : Fault → BlockRefusal
refusal_back fault = cond (eqb (number_of fault) 9) Length (cond (eqb (number_of fault) 10) Sums (cond (eqb (number_of fault) 11) Layout Record))

pub refusal_back_lem : (why : BlockRefusal) → refusal_back (block_fault why) ≡ why
refusal_back_lem Length = refl
refusal_back_lem Sums = refl
refusal_back_lem Layout = refl
refusal_back_lem Record = refl

check_block : Determined 1 check-block-kinds.ps check-block-kinds.r check-block-reads.Post
check_block κs a x y s t p q = coincide (verdict_by block_fault) (verdict_back refusal_back) (verdict_again block_fault refusal_back refusal_back_lem) p q
