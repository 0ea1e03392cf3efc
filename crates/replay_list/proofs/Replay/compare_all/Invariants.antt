-- A record that differs in one number differs.
use Rattle.std.proofs.Common.{IsTrue}
use Rattle.replay_list.proofs.Replay.compare_all.Given as goal

abbrev pub invariant-loop-one : goal.invariant-loop-one
invariant-loop-one g l = IsTrue l.fn.self.differs → IsTrue l.self.differs
