-- The paths of files, as bytes.
use Rattle.std.specs.Prelude.{◌≡◌, ◌≢◌, ◌<◌, cond, List, ◌++◌, ℕ, zero, suc, ◌-◌, eqb, length, take, get_or, replicate, slice_index, slice_index_or}
use Rattle.io.specs.Counts.{IsPrefixLen}
use Rattle.text_put.specs.Text.{ascii, decimal}

-- as C takes a path: its first 4,095 bytes, and zeros behind them, to 4,096 bytes in all
abbrev pub c_path : List ℕ → List ℕ
c_path path = take 4095 path ++ replicate (4096 - length (take 4095 path)) 0

-- the last of 4,096 bytes is 0
abbrev pub Ended : List ℕ → Type 0
Ended bytes = slice_index_or bytes 4095 1 ≡ 0

-- such bytes, the last of which is a zero
pub record IsCPath (path result : List ℕ) : Type 0 where
  pub bytes : result ≡ c_path path
  pub ends : Ended result

-- where the last slash among the first bytes of a path ends, looked for from the last of them down; 0 where there is none
unfoldable pub slash_within : ℕ → List ℕ → ℕ
slash_within zero path = 0
slash_within (suc k) path = cond (eqb (get_or path k 0) 47) (suc k) (slash_within k path)

-- where the last slash of a path lies
abbrev pub IsLastSlash : List ℕ → ℕ → Type 0
IsLastSlash path last = (last < length path) × (slice_index path last ≡ 47) × ((k : ℕ) → last < k → k < length path → slice_index path k ≢ 47)

-- a path's folder: up to its last slash, with it
abbrev pub folder_of : List ℕ → List ℕ
folder_of path = take (slash_within (length path) path) path

-- so many bytes of the path are its folder
pub record CountsFolder (path : List ℕ) (result : ℕ) : Type 0 where
  pub counts : IsPrefixLen result path
  pub folder : take result path ≡ folder_of path

-- the name under which a file is made, by a number: in the folder of its path
abbrev pub part_of : List ℕ → ℕ → List ℕ
part_of path number = folder_of path ++ ascii "tns-rescue-" ++ decimal number ++ ascii ".part"
