-- A path that was copied over 4,096 zeros, as far as there is room before the last of them, is as C takes it.
use mathlib.Core.Path.{◌≡◌, refl, sym, ◌∙◌, ap}
use mathlib.Core.List.{List, ◌++◌}
use Prim.Native.Nat.{ℕ, ◌-◌, ◌≤◌, min}
use native.Mathlib.Omega.{arith}
use native.Mathlib.Decide.{dec_lt}
use lib.ListN.{length, take, drop, get_or, replicate, length-take}
use lib.Seq.{take_all}
use Rattle.std.proofs.lemmas.List.{get_or-append_right, get_or-replicate}
use Rattle.law_lists.proofs.Parts.{drop_zeros}
use Rattle.io_paths.specs.Paths.{c_path, IsCPath}

-- as many bytes as are copied are those that there is room for
as_many : (path : List ℕ) (count : ℕ) → count ≡ min (length path) 4095 → take count path ≡ take 4095 path
as_many path count n = elim (dec_lt 4095 (length path)) [
  | yes long ↦ let e : count ≡ 4095 = omega arith in ap (λ (k : ℕ). take k path) e
  | no all ↦ take_all count path (omega arith) ∙ sym (take_all 4095 path (omega arith))
]

over_zeros : (path : List ℕ) (count : ℕ) → count ≡ min (length path) 4095 → take count path ++ drop count (replicate 4096 0) ≡ c_path path
over_zeros path count n =
    let many : count ≡ length (take 4095 path) = omega (arith, length-take 4095 path) in
    ap (λ (l : List ℕ). l ++ drop count (replicate 4096 0)) (as_many path count n)
    ∙ ap (λ (l : List ℕ). take 4095 path ++ l) (drop_zeros count 4096 ∙ ap (λ (k : ℕ). replicate (4096 - k) 0) many)

zero_last : (path : List ℕ) → get_or (c_path path) 4095 1 ≡ 0
zero_last path =
    let front = take 4095 path in
    let n = length front in
    let fits : n ≤ 4095 = omega (arith, length-take 4095 path) in
    get_or-append_right front (replicate (4096 - n) 0) n 4095 1 refl fits ∙ get_or-replicate (4096 - n) (4095 - n) 0 1 (omega arith)

pub as_c : (path : List ℕ) (count : ℕ) → count ≡ min (length path) 4095 → IsCPath path (take count path ++ drop count (replicate 4096 0))
as_c path count n =
    let bytes = over_zeros path count n in
    record { bytes = bytes; ends = ap (λ (l : List ℕ). get_or l 4095 1) bytes ∙ zero_last path }
