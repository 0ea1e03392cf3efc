-- What the indices below an order cost from a place on: what stands there and the rest, and nothing past the last.
use Rattle.std.proofs.Common.{◌≡◌, ℕ, ◌+◌, ◌≤◌, ◌<◌, List, length, get_or, drop, take, add-one, arith}
use Rattle.std.proofs.Math.ListN.{length-take, drop_of_length-le}
use Rattle.std.proofs.Math.Seq.{drop-cons, get_or-take}
use Rattle.cost_tables.specs.Tables.{cell, coef_bits, cells_from}

unfoldable pub rest : ℕ → List ℕ → ℕ → ℕ
rest order indices place = cells_from coef_bits place (drop place (take order indices))

pub there : (order : ℕ) (indices : List ℕ) (place : ℕ) → place < length indices → place < order
    → rest order indices place ≡ cell coef_bits place (get_or indices place 0) + rest order indices (place + 1)
unfolding cells_from rest
there order indices place inside below =
    let l : place < length (take order indices) = omega (arith, length-take order indices) in
    rw (add-one, drop-cons (take order indices) place 0 l, get_or-take order indices place 0 below)

pub not_there : (order : ℕ) (indices : List ℕ) (place : ℕ) → order ≤ place → rest order indices place ≡ 0
unfolding cells_from rest
not_there order indices place h =
    let l : length (take order indices) ≤ place = omega (arith, length-take order indices) in
    rw (drop_of_length-le (take order indices) l)

pub past_last : (order : ℕ) (indices : List ℕ) (place : ℕ) → length indices ≤ place → rest order indices place ≡ 0
unfolding cells_from rest
past_last order indices place h =
    let l : length (take order indices) ≤ place = omega (arith, length-take order indices) in
    rw (drop_of_length-le (take order indices) l)
