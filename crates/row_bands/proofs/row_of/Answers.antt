-- A duration has its own table.
use borrow.Author.Rules.{rules}
use Rattle.row_bands.specs.Bands.{row_of}
use Rattle.row_bands.proofs.row_of.Goals as goal

pub returns-in-Ten : goal.returns-in-Ten
unfolding row_of
returns-in-Ten c = search rules

pub returns-in-SevenPointFive : goal.returns-in-SevenPointFive
unfolding row_of
returns-in-SevenPointFive c = search rules
