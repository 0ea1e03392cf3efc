-- What differs from itself is the NaN, and anything else has a pattern of its own.
use Rattle.std.proofs.Common.{◌≡◌, true, false, sym, ◌∙◌}
use mathlib.Core.Bool.{not, true≢false}
use lib.Dec.{T}
use lib.Ieee.{Float, nan, inf, fin, is_nan, ne, to_bits, binary32}
use lib.Ieee.Compare.{differs_from_itself, nan_differs}
use Rattle.replay_list.proofs.pattern_of.Goals as goal

its_pattern : (x : Float) → ne x x ≡ true → 0x7fc00000 ≡ to_bits binary32 x
unfolding to_bits
its_pattern x e = rw (differs_from_itself x (rw e tt))

no_nan : (x : Float) → ne x x ≡ false → T (not (is_nan x))
unfolding is_nan
no_nan nan e = absurd (true≢false (sym nan_differs ∙ e))
no_nan (inf s) e = tt
no_nan (fin s m d) e = tt

pub returns-then-x : goal.returns-then-x
returns-then-x c = its_pattern c.args.x c.if-x.true

pub float_to_bits-result : goal.float_to_bits-result
float_to_bits-result c = no_nan c.args.x c.if-x.false
