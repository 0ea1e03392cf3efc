-- Whatever the read gives is answered, written as far as can be, counted as a read, and added up.
use Rattle.std.proofs.Common.{sym, subst, arith}
use Rattle.io_reading_mend.proofs.MendTurns.{Settled, records_counted, still_in_range, one_turn, turns}
use Rattle.io_reading_mend.proofs.mend_turn.Goals as goal

pub settled-stands-requires-clause-few : goal.settled-stands-requires-clause-few
settled-stands-requires-clause-few c =
    let read = c.read-got in
    let came = c.answered-came in
    records_counted c.args.mending read.new.piece _ _ _ c.requires.kept c.requires.unwhole read.result came.result came.ensures (omega arith) read.ensures.within

pub returns : goal.returns
returns c =
    let mending = c.args.mending in
    let read = c.read-got in
    let came = c.answered-came in
    let stands = c.settled-stands in
    let written = stands.ensures.0 in
    let next = c.after_read in
    let range = still_in_range mending read.new.piece _ _ _ c.requires.kept c.requires.unwhole c.requires.few read.result came.result came.ensures (omega arith) read.ensures.within written in
    turns mending stands.result next.result next.ensures.counted (subst (Settled mending) (sym stands.ensures.1) range) next.ensures.left
    (one_turn mending stands.result next.result next.ensures.counted read.result read.new.piece _ _ _ came.result written came.ensures stands.ensures.1)
