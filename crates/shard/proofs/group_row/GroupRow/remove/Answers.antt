use Rattle.std.proofs.Common.{ap, arith, length}
use Rattle.std.proofs.lemmas.List.Edits.{length-remove}
use Rattle.shard.specs.Row.{RowState, in_order}
use Rattle.shard.proofs.Orders.{length_order}
use Rattle.shard.proofs.group_row.GroupRow.remove.Goals as goal

pub take_out-requires-clause-within : goal.take_out-requires-clause-within
take_out-requires-clause-within g c =
    omega (arith, length_order c.self.inside.groups.items c.self.inside.order.items c.self.invariant, c.requires.within, ap (λ (r : RowState). length r.items) c.self.view_is)

pub returns-clause-len : goal.returns-clause-len
returns-clause-len g c =
    omega (
      arith,
      ap length c.take_out.ensures.items,
      length-remove (in_order c.self.inside.groups.items c.self.inside.order.items) c.args.index
          (omega (arith, c.requires.within, ap (λ (r : RowState). length r.items) c.self.view_is)),
      ap (λ (r : RowState). length r.items) c.self.view_is,
    )
