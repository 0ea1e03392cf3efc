-- Two filters that are off cost a bit each; of the others each takes its bits, rounded up on their own.
use Rattle.std.proofs.Common.{rules, [], ◌∷◌, ◌++◌, length-append, ◌≡◌, List, ℕ, zero, suc, ◌*◌, ◌≤◌, length, get_or, take, drop, refl, sym, ◌∙◌, ap, arith}
use Rattle.std.proofs.Math.ListN.{get_or-eq_default}
use Rattle.law_lists.specs.Counted.{counted, total}
use Rattle.check_side.proofs.Sides.{checked_sound}
use Rattle.cost_filter.specs.FilterCost.{whole_bits, filter_bits}
use Rattle.cost_call.specs.Cost.{counted_bits}
use Rattle.cost_call.proofs.Costs.{one_more, all_off}
use Rattle.cost_call.proofs.AtPlace.{ItsTurn, turn_at, cost_at}
use Rattle.cost_call.proofs.counted_bits.Goals as goal
use Rattle.cost_call.proofs.counted_bits.Goals.{In-Some}

-- both of two orders are 0, so every order is
no_order : (orders : List ℕ) → length orders ≡ 2 → get_or orders 0 0 ≡ 0 → get_or orders 1 0 ≡ 0 → (i : ℕ) → get_or orders i 0 ≡ 0
no_order orders two first second zero = first
no_order orders two first second (suc zero) = second
no_order orders two first second (suc (suc i)) =
    let past : length orders ≤ suc (suc i) = omega arith in
    get_or-eq_default orders 0 past

pub returns-then-side-eq0-2 : goal.returns-then-side-eq0-2
returns-then-side-eq0-2 c =
    let g = c.args in
    let side = g.side.now in
    let two : length side.orders ≡ 2 = search rules in
    sym (all_off g.weighting side.filters side.orders side.indices (no_order side.orders two c.if-side-eq0.true c.if-side-eq0-2.true))

pub loop-order-init : goal.loop-order-init
unfolding counted_bits counted total
loop-order-init c = record { all = refl; few = omega arith }

-- the pair of a turn is a counted filter's
its_turn : (c : In-Some)
    → ItsTurn c.args.side.now.filters c.args.side.now.orders c.args.side.now.indices (length c.loop-order.yielded) c.in-Some.order.now c.in-Some.eight.now
its_turn c =
    let side = c.args.side.now in
    let l = c.loop-order in
    turn_at side.filters side.orders side.indices (checked_sound side (search rules) (search rules)) l.yielded c.into_iter-order-iterator.result l.order-iterator c.next.new.self
    (search rules) (search rules) l.yielded_by c.in-Some.order c.in-Some.eight c.in-Some.ensures.steps

pub filter_cost-cost-requires : goal.filter_cost-cost-requires
filter_cost-cost-requires c = (its_turn (goal.at.filter_cost-cost-requires c).In-Some).at_most_16

-- the cost of the filter at its place is small
pub whole_bits-bits-requires : goal.whole_bits-bits-requires
whole_bits-bits-requires c = c.filter_cost-cost.ensures.few (its_turn (goal.at.whole_bits-bits-requires c).In-Some).at_most_8

pub loop-order-preserved : goal.loop-order-preserved
unfolding filter_bits
loop-order-preserved c =
    let g = c.args in
    let side = g.side.now in
    let l = c.loop-order in
    let turn = its_turn (goal.at.loop-order-preserved c).In-Some in
    let one = cost_at side.filters side.orders side.indices (length l.yielded) c.in-Some.order.now c.in-Some.eight.now turn g.weighting _ c.filter_cost-cost.ensures in
    let its_bits : c.whole_bits-bits.result ≡ filter_bits g.weighting (get_or side.orders (length l.yielded) 0) (take 8 (drop (8 * length l.yielded) side.indices)) =
    c.whole_bits-bits.ensures.bits ∙ ap whole_bits one
    in
    let more : length (l.yielded ++ (c.in-Some.order, c.in-Some.eight) ∷ []) ≡ suc (length l.yielded) = omega (arith, length-append l.yielded ((c.in-Some.order, c.in-Some.eight) ∷ [])) in
    rw more (record {
      all = omega (arith, l.invariant.all, its_bits, one_more g.weighting (length l.yielded) side.orders side.indices);
      few = omega (arith, l.invariant.few, c.whole_bits-bits.ensures.few);
    })
