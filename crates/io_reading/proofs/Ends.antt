-- After a read one more is made, and all else stands, but that the reading may end.
use mathlib.Core.Path.{◌≡◌, refl}
use mathlib.Core.Bool.{Bool, true, false, cond}
use Prim.Native.Nat.{◌+◌}
use Rattle.io_streams.specs.Reads.{is_spent}
use Rattle.io_reading.specs.Stands.{ended_as, one_read, after_read}
use Rattle.io_reading.specs.declared.Standing.{Standing}

-- what is found so far is the same, and one read more is made
pub record Stays (standing result : Standing) : Type 0 where
  pub place : result.place ≡ standing.place
  pub kept : result.kept ≡ standing.kept
  pub held : result.held ≡ standing.held
  pub reads : result.reads ≡ standing.reads + 1

module _ (standing : Standing) where
  by_spent : (spent : Bool) → Stays standing (cond spent (ended_as false (one_read standing)) (one_read standing))
  by_spent true = record { place = refl; kept = refl; held = refl; reads = refl }
  by_spent false = record { place = refl; kept = refl; held = refl; reads = refl }

  pub stays : (result : Standing) → result ≡ after_read standing → Stays standing result
  stays result e = rw e (by_spent (is_spent standing.goes_on (standing.reads + 1)))
