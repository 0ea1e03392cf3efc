-- Where the first number over the limit stands, by the laws of the search.
use Rattle.std.proofs.Common.{◌∙◌, sym}
use Rattle.check_limits.proofs.Lowest.{found_by_position, none_by_position}
use Rattle.check_limits.proofs.lowest_over.Goals as goal

pub returns-in_err-place : goal.returns-in_err-place
returns-in_err-place c = c.from_residual.ensures ∙ none_by_position c.args.limit c.args.numbers.now (sym c.first_over.ensures ∙ c.in_err-place.was)

pub returns : goal.returns
returns c = found_by_position c.args.limit c.args.numbers.now c.in_ok-place.place (sym c.first_over.ensures ∙ c.in_ok-place.was)
