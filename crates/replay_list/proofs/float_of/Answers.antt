-- A pattern above that of infinity, its sign apart, is a NaN's, and there is one NaN.
use Rattle.std.proofs.Common.{◌≡◌, ℕ, ◌%◌, ◌<◌, ◌≤◌, true, refl, sym, ◌∙◌}
use mathlib.Core.Bool.{not}
use borrow.Author.Tests.{lt-ltb, le-ltb}
use lib.Dec.{T}
use lib.Ieee.{Float, nan, inf, fin, is_nan, nan_bits, of_bits, binary32, div}
use lib.Ieee.Bits.{nan_bits_is, nan_bits_above}
use Rattle.replay_list.proofs.float_of.Goals as goal

is_nan_lem : (x : Float) → is_nan x ≡ true → x ≡ nan
unfolding is_nan
is_nan_lem nan e = refl
is_nan_lem (inf s) e = cc
is_nan_lem (fin s m d) e = cc

above : (pattern : ℕ) → 0x7f800000 < pattern % 0x80000000 → of_bits binary32 pattern ≡ nan
above pattern h = is_nan_lem (of_bits binary32 pattern) (sym (nan_bits_is binary32 pattern) ∙ nan_bits_above binary32 pattern ∙ lt-ltb _ _ h)

below : (pattern : ℕ) → pattern % 0x80000000 ≤ 0x7f800000 → T (not (nan_bits binary32 pattern))
below pattern h = rw (nan_bits_above binary32 pattern ∙ le-ltb _ _ h) tt

pub returns-then-pattern-gt2139095040 : goal.returns-then-pattern-gt2139095040
unfolding div of_bits
returns-then-pattern-gt2139095040 c = sym (above c.args.pattern c.if-pattern-gt2139095040.true)

pub float_from_bits-result : goal.float_from_bits-result
float_from_bits-result c = below c.args.pattern c.if-pattern-gt2139095040.false
