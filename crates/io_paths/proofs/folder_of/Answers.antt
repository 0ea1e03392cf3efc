-- The folder ends behind the last slash, if there is one.
use Rattle.std.proofs.Common.{rules, ◌≡◌, ◌+◌}
use Rattle.std.specs.Prelude.{MatchOption}
use Rattle.io_paths.proofs.Slashes.{counts_folder}
use Rattle.io_paths.proofs.folder_of.Goals as goal

pub returns : goal.returns
returns c =
    let last = c.last_slash.result in
    let end = c.map_or.result in
    let e : MatchOption last (end ≡ 0) (λ place. end ≡ place + 1) = search rules in
    counts_folder c.args.path.now last end c.last_slash.ensures e
