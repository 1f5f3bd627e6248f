use Rattle.pool.proofs.Retiring.{AreReady-taken, IsSparsest-ready, MayTakeIn-lifted, MovesSparsest-lifted, together-taken}
use Rattle.pool.proofs.pool.Pool.take_alone.Goals as goal

pub unreachable-requires : goal.unreachable-requires
unreachable-requires g c =
    let (more, rest, ready) = c.requires in
    let first = IsSparsest-ready c.args.self.now c.args.shard.now c.args.one.now more rest ready in
    (c.in_default.ensures {u = tt}).lifts.0 first.0 first.1 (record { here = first.2.here; head_is = first.3 })

pub take_in-requires : goal.take_in-requires
take_in-requires g c =
    let (more, rest, ready) = c.requires in
    MayTakeIn-lifted c.args.self.now c.args.self.now c.args.shard.now c.lift.new.self c.args.one.now more rest c.in-Some.whole ready c.in-Some.ensures.lifts

pub returns-clause-moves : goal.returns-clause-moves
returns-clause-moves g c =
    let (more, rest, ready) = c.requires in
    MovesSparsest-lifted c.args.self.now c.take_in.new.self c.args.shard.now
    c.lift.new.self c.args.one.now more rest c.in-Some.whole ready c.in-Some.ensures.lifts c.take_in.ensures.takes

pub returns-clause-kept : goal.returns-clause-kept
returns-clause-kept g c =
    let (more, rest, ready) = c.requires in
    together-taken c.args.self.now c.take_in.new.self c.args.shard.now
    c.lift.new.self c.args.one.now more rest c.in-Some.whole ready c.in-Some.ensures.lifts c.take_in.ensures.takes c.take_in.ensures.sound
    c.lift.ensures.sound

pub returns-clause-ready : goal.returns-clause-ready
returns-clause-ready g c more rest ready =
    AreReady-taken c.args.self.now c.take_in.new.self c.args.shard.now
    c.lift.new.self c.args.one.now more rest c.in-Some.whole ready c.in-Some.ensures.lifts c.take_in.ensures.takes c.take_in.ensures.sound
    c.lift.ensures.sound
