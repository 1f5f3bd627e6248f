use Rattle.std.proofs.Common.{◌∙◌, ◌+◌, ap, arith, length}
use Rattle.std.proofs.lemmas.List.Edits.{length-insert}
use Rattle.shard.specs.Row.{RowState}
use Rattle.shard.proofs.Orders.{length_order}
use Rattle.shard.proofs.group_row.GroupRow.insert_reserved.Goals as goal

pub put_in-requires-clause-within : goal.put_in-requires-clause-within
put_in-requires-clause-within g c =
    omega (arith, length_order c.self.inside.groups.items c.self.inside.order.items c.self.invariant, c.requires.within, ap (λ (r : RowState). length r.items) c.self.view_is)

pub put_in-requires-clause-room : goal.put_in-requires-clause-room
put_in-requires-clause-room g c = omega (
  arith,
  length_order c.self.inside.groups.items c.self.inside.order.items c.self.invariant,
  c.self.invariant.many,
  c.requires.room,
  ap (λ (r : RowState). length r.items) c.self.view_is,
  ap (λ (r : RowState). r.room) c.self.view_is,
  c.self.inside.groups.ok.0,
)

pub put_in-requires-clause-order_room : goal.put_in-requires-clause-order_room
put_in-requires-clause-order_room g c = omega (
  arith,
  length_order c.self.inside.groups.items c.self.inside.order.items c.self.invariant,
  c.requires.room,
  ap (λ (r : RowState). length r.items) c.self.view_is,
  ap (λ (r : RowState). r.room) c.self.view_is,
  c.self.inside.order.ok.0,
)

pub put_in-requires-clause-few : goal.put_in-requires-clause-few
put_in-requires-clause-few g c = omega (
  arith,
  length_order c.self.inside.groups.items c.self.inside.order.items c.self.invariant,
  c.self.invariant.many,
  c.requires.few,
  ap (λ (r : RowState). length r.items) c.self.view_is,
)

pub invariant_of-self : goal.invariant_of-self
invariant_of-self g c = c.put_in.ensures.order

pub returns-clause-items : goal.returns-clause-items
returns-clause-items g c = rw (← c.self.view_is) c.put_in.ensures.items

pub returns-clause-len : goal.returns-clause-len
returns-clause-len g c =
    ap length c.put_in.ensures.items ∙ length-insert _ c.args.index c.args.group (omega (arith, c.requires.within, ap (λ (r : RowState). length r.items) c.self.view_is))
    ∙ ap (λ (r : RowState). length r.items + 1) c.self.view_is

pub returns-clause-capacity : goal.returns-clause-capacity
returns-clause-capacity g c = omega (arith, c.put_in.ensures.room, c.put_in.ensures.order_room, ap (λ (r : RowState). r.room) c.self.view_is)
