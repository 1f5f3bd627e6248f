use Rattle.pool.proofs.Moving.{IsMoving-next, MayTakeIn-moving}
use Rattle.pool.proofs.pool.Pool.take_all.Goals as goal

pub take_in-requires : goal.take_in-requires
take_in-requires g c =
    MayTakeIn-moving c.args.self.now c.loop-whole.self c.loop-whole.self c.args.shard.now c.loop-whole.shard c.lift_last.new.self c.in-Some.whole c.loop-whole.invariant c.in-Some.ensures.lifts

pub loop-whole-preserved : goal.loop-whole-preserved
loop-whole-preserved g c =
    IsMoving-next c.args.self.now c.loop-whole.self c.take_in.new.self c.args.shard.now c.loop-whole.shard c.lift_last.new.self c.in-Some.whole c.loop-whole.invariant c.in-Some.ensures.lifts
    c.take_in.ensures.takes c.take_in.ensures.sound c.lift_last.ensures.sound
