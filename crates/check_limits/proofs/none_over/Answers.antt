-- What the fold comes to, by the laws of the search.
use Rattle.std.proofs.Common.{rules, ◌≡◌, ◌∙◌, ◌&&◌, true, Bool, ℕ}
use Rattle.std.proofs.lemmas.Grind.{common_steps}
use Rattle.std.specs.Prelude.{fold, nat_le}
use Rattle.check_limits.proofs.Lowest.{none_by_fold}
use Rattle.check_limits.proofs.none_over.Goals as goal

pub returns : goal.returns
returns c =
    let folded : c.fold.result ≡ fold (λ (none : Bool) (x : ℕ). none && nat_le x c.args.limit) true c.args.numbers.now = search (rules, common_steps) in
    folded ∙ none_by_fold c.args.limit 0 c.args.numbers.now
