-- Each place that is counted has its filter's cost, and the others 0.
use Rattle.std.proofs.Common.{◌≡◌, ◌<◌, ◌≤◌, ◌*◌, ℕ, [], length, get_or, take, drop, arith, rules}
use Rattle.std.proofs.iter.Serving.{serving}
use Rattle.law_lists.proofs.Made.{made_at}
use Rattle.cost_filter.specs.FilterCost.{filter_cost, FilterPriced}
use Rattle.cost_call.proofs.AtPlace.{place_at, cost_at}
use Rattle.cost_parts.proofs.Parts.{part_at, part_is, by_places}
use Rattle.cost_parts.proofs.two_costs.Goals as goal

pub from_fn-requires : goal.from_fn-requires
from_fn-requires c =
    let g = c.args in
    let fine : (filter : ℕ) → filter < g.filters → (place : ℕ) → get_or (get_or c.as_chunks.result.0.now filter []) place 0 ≤ 16 =
    λ filter h. rw c.as_chunks.ensures.front (place_at g.filters g.orders.now g.indices.now c.requires filter h).at_most_16
    in
    let two : length c.as_chunks.result.0.now ≡ 2 = omega (arith, c.as_chunks.ensures.front_len) in
    grind (arith, serving, fine)

pub returns : goal.returns
returns c =
    let g = c.args in
    let its : (filter cost : ℕ) → filter < g.filters → FilterPriced g.weighting (get_or g.orders.now filter 0) (get_or c.as_chunks.result.0.now filter []) cost
    → cost ≡ filter_cost g.weighting (get_or g.orders.now filter 0) (take 8 (drop (8 * filter) g.indices.now)) =
    λ filter cost h priced.
    cost_at g.filters g.orders.now g.indices.now filter _ _ (place_at g.filters g.orders.now g.indices.now c.requires filter h) g.weighting cost (rw c.as_chunks.ensures.front at priced)
    in
    by_places g.weighting g.filters g.orders.now g.indices.now c.from_fn.result c.requires.count_at_most_2 c.from_fn.ensures.items.long
    (λ filter h.
    made_at _ _ (part_at g.weighting g.filters g.orders.now g.indices.now) 2
    (λ i y q below call. (search rules, part_is g.weighting g.filters g.orders.now g.indices.now i y (λ b. grind (arith, serving, its i y b)) (λ a. grind (arith, serving))))
    c.from_fn.result c.from_fn.ensures.items filter h 0)
