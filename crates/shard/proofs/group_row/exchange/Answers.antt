use Rattle.std.proofs.Common.{◌≡◌, ◌∙◌, Some, arith, length, refl, slice_get, sym}
use Rattle.std.proofs.lemmas.Option.{slice_get_read}
use Rattle.groups.proofs.Lists.{same_some}
use Rattle.shard.proofs.Orders.{IsOrder-swap, below_count, in_order-swap, length_swapped}
use Rattle.shard.proofs.group_row.exchange.Goals as goal

-- what was read of the order
first_read : (g : _) (c : goal.After-row_known-2-1 g) → slice_get c.args.order.now.items c.args.first ≡ Some c.index.result.now
first_read g c = slice_get_read c.args.order.now.items _ c.args.first c.index.result.now refl c.requires.first c.index.ensures

second_read : (g : _) (c : goal.After-row_known-2-1 g) → slice_get c.args.order.now.items c.args.second ≡ Some c.index-2.result.now
second_read g c = slice_get_read c.args.order.now.items _ c.args.second c.index-2.result.now refl c.requires.second c.index-2.ensures

pub swap-requires-clause-i_in_bounds : goal.swap-requires-clause-i_in_bounds
swap-requires-clause-i_in_bounds g c =
    omega (arith, below_count (length c.args.groups.now.items) c.args.order.now.items c.requires.order c.args.first c.index.result.now (first_read g c), c.args.groups.now.ok.0)

pub swap-requires-clause-j_in_bounds : goal.swap-requires-clause-j_in_bounds
swap-requires-clause-j_in_bounds g c =
    omega (arith, below_count (length c.args.groups.now.items) c.args.order.now.items c.requires.order c.args.second c.index-2.result.now (second_read g c), c.args.groups.now.ok.0)

pub returns-clause-groups : goal.returns-clause-groups
returns-clause-groups g c place other first second =
    let first_place = slice_get_read c.args.order.now.items _ c.args.first c.index.result.now refl c.requires.first c.index.ensures in
    let second_place = slice_get_read c.args.order.now.items _ c.args.second c.index-2.result.now refl c.requires.second c.index-2.ensures in
    let here : c.index.result.now ≡ place = same_some (sym first_place ∙ first) in
    let there : c.index-2.result.now ≡ other = same_some (sym second_place ∙ second) in
    c.swap.ensures.items ∙ rw (here, there) refl

pub returns-clause-order : goal.returns-clause-order
returns-clause-order g c =
    rw (c.swap.ensures.items, c.swap-2.ensures.items, length_swapped c.args.groups.now.items c.index.result.now c.index-2.result.now)
    (IsOrder-swap (length c.args.groups.now.items) c.args.order.now.items c.requires.order c.args.first c.args.second c.requires.first c.requires.second)

pub returns-clause-same : goal.returns-clause-same
returns-clause-same g c =
    let first_place = slice_get_read c.args.order.now.items _ c.args.first c.index.result.now refl c.requires.first c.index.ensures in
    let second_place = slice_get_read c.args.order.now.items _ c.args.second c.index-2.result.now refl c.requires.second c.index-2.ensures in
    rw (c.swap.ensures.items, c.swap-2.ensures.items)
    (in_order-swap c.args.groups.now.items c.args.order.now.items c.requires.order c.args.first c.args.second c.index.result.now c.index-2.result.now first_place second_place)
