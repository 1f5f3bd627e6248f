use Rattle.std.proofs.Common.{arith, length, refl}
use Rattle.std.proofs.lemmas.Option.{slice_get_read}
use Rattle.pool.proofs.LeastLive.{KnowsLeast-next}
use Rattle.pool.proofs.least_live.note_bytes.Goals as goal

pub loop-group-preserved : goal.loop-group-preserved
loop-group-preserved g c =
    let here = slice_get_read c.args.groups.now (length c.args.groups.now) c.loop-group.group-index c.group-item.result refl c.loop-group-test.true c.group-item.is in
    record {
      known = rw c.push_reserved.ensures.items
          (KnowsLeast-next c.args.groups.now c.loop-group.group-index c.group-item.result here c.loop-group.least.items c.byte_of_pooled.result c.loop-group.invariant.len
          c.byte_of_pooled.ensures c.loop-group.invariant.known);
      len = omega (arith, c.push_reserved.ensures.len, c.push_reserved.new.self.ok.0, c.loop-group.least.ok.0, c.loop-group.invariant.len);
      capacity = omega (arith, c.push_reserved.ensures.capacity, c.loop-group.invariant.capacity);
    }
