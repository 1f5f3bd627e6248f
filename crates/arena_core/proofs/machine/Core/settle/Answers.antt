use Rattle.std.proofs.Common.{subst}
use Rattle.arena_core.specs.Rings.{Takes}
use Rattle.arena_core.proofs.RingEvents.{ShownStep-settled}
use Rattle.arena_core.proofs.machine.Core.settle.Goals as goal

pub returns-clause-plain : goal.returns-clause-plain
returns-clause-plain g c =
    let told = c.in_ok-key.ensures {u = tt} in
    ShownStep-settled c.args.self.now c.take_sent.new.self c.free.new.self c.args.worker c.args.shard c.in-Some.key c.free.result
    (subst (λ found. Takes c.args.self.now.rings c.args.worker c.args.shard found c.take_sent.new.self.rings) c.in-Some.is told.taken) told.rest c.free.ensures.plain
