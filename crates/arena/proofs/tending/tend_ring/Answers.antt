use Rattle.std.proofs.Common.{arith}
use Rattle.arena.proofs.TendedRings.{ring_none, ring_more}
use Rattle.arena.proofs.tending.tend_ring.Goals as goal

pub loop-init : goal.loop-init
loop-init g c = record { few = omega arith; room = omega arith; known = omega arith; tended = ring_none c.args.inbox.now (g.K.Receipts.told c.args.receipts.now) }

pub loop-preserved : goal.loop-preserved
loop-preserved g c =
    let inv = c.loop.invariant in
    let some = c.in-Ok.ensures in
    record {
      few = omega (arith, inv.few, some.few);
      room = omega (arith, inv.room, some.room);
      known = omega (arith, inv.known, some.known);
      tended = ring_more c.args.inbox.now c.loop.inbox c.tend_some.new.inbox c.loop.count c.in-Ok.freed _ _ _ inv.tended some.tended;
    }
