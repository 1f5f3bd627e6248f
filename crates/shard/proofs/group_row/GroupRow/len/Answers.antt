use Rattle.std.proofs.Common.{arith}
use Rattle.shard.proofs.Orders.{length_order}
use Rattle.shard.proofs.group_row.GroupRow.len.Goals as goal

pub returns : goal.returns
returns g c = rw (← c.self.view_is) (omega (arith, length_order c.self.inside.groups.items c.self.inside.order.items c.self.invariant, c.len.ensures, c.self.inside.order.ok.0))
