use Rattle.std.proofs.Common.{◌<◌, ap, arith, length, refl}
use Rattle.shard.specs.Row.{RowState, in_order}
use Rattle.shard.proofs.Orders.{element_read, in_order-set, length_order, place_read, place_within}
use Rattle.shard.proofs.group_row.GroupRowIndexMutUsize.index_mut.Goals as goal

pub index-requires : goal.index-requires
index-requires g c =
    let low : c.args.index < length (in_order c.self.inside.groups.items c.self.inside.order.items) = omega (arith, c.requires, ap (λ (r : RowState). length r.items) c.self.view_is) in
    omega (arith, low, length_order c.self.inside.groups.items c.self.inside.order.items c.self.invariant, c.self.inside.order.ok.0)

pub index_mut-requires : goal.index_mut-requires
index_mut-requires g c =
    let low : c.args.index < length (in_order c.self.inside.groups.items c.self.inside.order.items) = omega (arith, c.requires, ap (λ (r : RowState). length r.items) c.self.view_is) in
    omega (arith, place_within c.self.inside.groups.items c.self.inside.order.items c.self.invariant c.args.index c.index.result.now low c.index.ensures, c.self.inside.groups.ok.0)

pub returns : goal.returns
returns g c =
    let low : c.args.index < length (in_order c.self.inside.groups.items c.self.inside.order.items) = omega (arith, c.requires, ap (λ (r : RowState). length r.items) c.self.view_is) in
    let place = c.index.result.now in
    let stands = place_read c.self.inside.groups.items c.self.inside.order.items c.self.invariant c.args.index place low c.index.ensures in (
      (refl, λ w. rw (← c.self.view_is, in_order-set c.self.inside.groups.items c.self.inside.order.items c.self.invariant c.args.index place stands w) refl),
      record {
        writes_back = tt;
        value = rw (← c.self.view_is) (element_read c.self.inside.groups.items c.self.inside.order.items c.self.invariant c.args.index place low c.index.ensures _ c.index_mut.ensures.value);
      },
    )
