-- What a refusal of a block says, in the numbers of docs/RULES.md, and how many records an answer on a block counts.
use Rattle.std.specs.Prelude.{ℕ}
use Rattle.check_verdicts.specs.Verdicts.{Fault, numbered, Verdict, unless_refused}
use Rattle.block_check.specs.declared.check.BlockRefusal.{BlockRefusal}
use Rattle.block_check.specs.declared.check.BlockRefusal.TheVariants.{Length, Sums, Layout, Record}

-- the number of each refusal
abbrev pub block_fault : BlockRefusal → Fault
block_fault Length = numbered 9
block_fault Sums = numbered 10
block_fault Layout = numbered 11
block_fault Record = numbered 12

-- how many records a verdict says, and none of a refusal
abbrev pub count_said : Verdict ℕ → ℕ
count_said verdict = unless_refused verdict (λ count. count) 0
