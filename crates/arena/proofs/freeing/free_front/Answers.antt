use Rattle.std.proofs.Common.{arith}
use Rattle.arena.proofs.Frees.{AddsFrees-none, freed_next}
use Rattle.arena.proofs.freeing.free_front.Goals as goal

pub loop-done-init : goal.loop-done-init
loop-done-init g c = record { room = omega arith; freed = AddsFrees-none (g.K.Receipts.told c.args.receipts.now) }

pub loop-done-preserved : goal.loop-done-preserved
loop-done-preserved g c =
    let was = c.loop-done.invariant in
    record {
      room = omega (arith, was.room, c.tell.ensures.room);
      freed = freed_next c.args.keys.now c.loop-done.done _ c.index-keys-done.result _ _ _ _
          (omega (arith, c.loop-done-test.true)) c.index-keys-done.is was.freed c.tell.ensures.told c.free_receipt.ensures.free;
    }
