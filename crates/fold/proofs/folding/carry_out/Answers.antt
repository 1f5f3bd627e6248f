use Rattle.fold.proofs.Folded.{Folds-grafted, MayGraft-room}
use Rattle.fold.proofs.folding.carry_out.Goals as goal

pub graft-requires : goal.graft-requires
graft-requires g c =
    let (index, group, from, spans_is) = c.requires.spans in
    MayGraft-room c.args.pool.now c.requires.sound c.args.shard.now c.args.a c.args.b c.requires.may c.in-Some.whole c.lift.new.self
    (c.in-Some.ensures {u = tt}).lifts index group from c.args.spans spans_is c.reserve_for.new.self (c.in_ok-reserve_for.ensures {u = tt}).ok

pub returns-clause-folds : goal.returns-clause-folds
returns-clause-folds g c =
    let (index, group, from, spans_is) = c.requires.spans in
    Folds-grafted c.args.pool.now c.requires.sound c.args.shard.now c.args.a c.args.b c.requires.may c.in-Some.whole c.lift.new.self
    (c.in-Some.ensures {u = tt}).lifts index group from c.args.spans spans_is c.reserve_for.new.self
    (c.in_ok-reserve_for.ensures {u = tt}).ok c.graft.new.self c.graft.ensures.grafts
