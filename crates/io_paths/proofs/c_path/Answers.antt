-- As much of the path as there is room for lies over the zeros.
use Rattle.std.proofs.Common.{◌++◌, List, ℕ, drop, replicate, sym, subst}
use Rattle.io_paths.specs.Paths.{IsCPath}
use Rattle.io_paths.proofs.Copied.{as_c}
use Rattle.io_paths.proofs.c_path.Goals as goal

pub returns : goal.returns
returns c =
    let count = c.min-count.result in
    let path = c.args.path.now in
    subst (λ (copied : List ℕ). IsCPath path (copied ++ drop count (replicate 4096 0))) (sym c.copy_from_slice.ensures.after) (as_c path count c.min-count.ensures)
