-- Laws of a piece that is taken: number and bytes held stay in range.
use mathlib.Core.Path.{◌≡◌}
use mathlib.Core.List.{List}
use Prim.Native.Nat.{ℕ, ◌+◌, ◌≤◌, ◌<◌}
use native.Mathlib.Omega.{arith}
use lib.ListN.{take}
use Rattle.io_rest.proofs.Rests.{rest_below}
use Rattle.io_streams.specs.declared.Read.{Read}
use Rattle.io_streams.specs.declared.Read.TheVariants as read
use Rattle.check_verdicts.specs.Verdicts.{Verdict}
use Rattle.io_portion.specs.OnePortion.{IsWay}
use Rattle.io_turns.specs.declared.Standing.{Standing}
use Rattle.io_transfer.specs.declared.Turned.{Turned}
use Rattle.io_transfer.specs.Transfer.{TakesLast, AnswersRead}

-- whatever a read gives, number and bytes held stay in range
pub record InRange (standing : Standing) (result : Turned) : Type 0 where
  pub number : result.standing.number ≤ 65536
  pub held : result.standing.held < 512
  pub reads : result.standing.reads ≡ standing.reads

module _ (size : ℕ) (verdict : ℕ → List ℕ → Verdict (List ℕ)) (known : ℕ → ℕ) (way : IsWay size verdict known) (standing : Standing) (found left output : List ℕ) (result : Turned) where
  last_in_range : (bytes : List ℕ) → TakesLast size verdict standing bytes output result → InRange standing result
  last_in_range bytes a = record { number = omega (arith, a.next, a.puts.in_range); held = omega (arith, a.none); reads = a.reads }

  pub still_in_range : (got : Read) → AnswersRead size verdict known got standing found left output result → InRange standing result
  still_in_range (read.Bytes count) a =
      record {
        number = omega (arith, a.next, a.puts.in_range);
        held = omega (arith, a.keeps.so_many, rest_below size (standing.held + count) (omega (arith, way.enough)), way.most);
        reads = a.reads;
      }
  still_in_range read.End a = last_in_range (take standing.held found) a
  still_in_range read.Failed a = last_in_range (take (known standing.held) found) a
