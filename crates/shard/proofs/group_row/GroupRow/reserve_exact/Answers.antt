use Rattle.std.proofs.Common.{arith}
use Rattle.shard.proofs.Orders.{length_order}
use Rattle.shard.proofs.group_row.GroupRow.reserve_exact.Goals as goal

pub returns-clause-ok : goal.returns-clause-ok
returns-clause-ok g c =
    rw (c.in_ok-reserve_exact.ensures.items, c.in_ok-reserve_exact-2.ensures.items)
    (omega (
      arith,
      length_order c.self.inside.groups.items c.self.inside.order.items c.self.invariant,
      c.self.invariant.many,
      c.in_ok-reserve_exact.ensures.ok,
      c.in_ok-reserve_exact.ensures.len,
      c.in_ok-reserve_exact-2.ensures.ok,
      c.in_ok-reserve_exact-2.ensures.len,
      c.self.inside.groups.ok.0,
      c.self.inside.order.ok.0,
    ))
