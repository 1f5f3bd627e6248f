use Rattle.std.proofs.Common.{◌<◌, ap, arith, length}
use Rattle.shard.specs.Row.{RowState, in_order}
use Rattle.shard.proofs.Orders.{element_read, length_order, place_within}
use Rattle.shard.proofs.group_row.GroupRowIndexUsize.index.Goals as goal

pub index-requires : goal.index-requires
index-requires g c =
    let low : c.args.index < length (in_order c.self.inside.groups.items c.self.inside.order.items) = omega (arith, c.requires, ap (λ (r : RowState). length r.items) c.self.view_is) in
    omega (arith, low, length_order c.self.inside.groups.items c.self.inside.order.items c.self.invariant, c.self.inside.order.ok.0)

pub index-requires-2 : goal.index-requires-2
index-requires-2 g c =
    let low : c.args.index < length (in_order c.self.inside.groups.items c.self.inside.order.items) = omega (arith, c.requires, ap (λ (r : RowState). length r.items) c.self.view_is) in
    omega (arith, place_within c.self.inside.groups.items c.self.inside.order.items c.self.invariant c.args.index c.index.result.now low c.index.ensures, c.self.inside.groups.ok.0)

pub returns : goal.returns
returns g c =
    let low : c.args.index < length (in_order c.self.inside.groups.items c.self.inside.order.items) = omega (arith, c.requires, ap (λ (r : RowState). length r.items) c.self.view_is) in
    rw (← c.self.view_is) (element_read c.self.inside.groups.items c.self.inside.order.items c.self.invariant c.args.index c.index.result.now low c.index.ensures _ c.index-2.ensures)
