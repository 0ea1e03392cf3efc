-- What either reading of a damaged file does with a piece of it.
use Rattle.std.specs.Prelude.{◌≡◌, true, false, List, ℕ, ◌+◌, ◌/◌}
use Rattle.io_rest.specs.Rest.{KeepsRest}
use Rattle.io_reading.specs.declared.Standing.{Standing}

-- a piece is passed: the place goes on by its whole blocks, what is left of the bytes is held, there is more to read, and so it is not well yet
pub record Passes (standing : Standing) (read : ℕ) (found left : List ℕ) (result : Standing) : Type 0 where
  pub place : result.place ≡ standing.place + read / 512
  pub keeps : KeepsRest 512 read found left result.held
  pub reads : result.reads ≡ standing.reads
  pub on : result.goes_on ≡ true
  pub unended : result.is_well ≡ false
