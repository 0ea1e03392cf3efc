-- When a read is left to make.
use mathlib.Core.Path.{◌≡◌, refl, sym, ap, ◌∙◌}
use mathlib.Core.Bool.{Bool, true, false, cond, false≢true}
use Prim.Native.Nat.{ℕ, ◌<◌}
use borrow.Author.Tests.{leb-false}
use Rattle.io_streams.specs.Reads.{most_reads, is_spent}

-- where there is more to read and the reads are not spent, one is left to make
pub not_spent : (more : Bool) (reads : ℕ) → is_spent more reads ≡ false → more ≡ true → reads < most_reads
not_spent more reads e on = leb-false most_reads reads (sym (ap (λ (m : Bool). is_spent m reads) on) ∙ e)

by_spent : (more spent : Bool) (reads : ℕ) → is_spent more reads ≡ spent → cond spent false more ≡ true → reads < most_reads
by_spent more true reads e on = absurd (false≢true on)
by_spent more false reads e on = not_spent more reads e on

-- so is one to a program that goes on only where they are not
pub one_left : (more : Bool) (reads : ℕ) → cond (is_spent more reads) false more ≡ true → reads < most_reads
one_left more reads on = by_spent more (is_spent more reads) reads refl on
