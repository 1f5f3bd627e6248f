use Rattle.std.proofs.Common.{◌∙◌, None, Some, ap, subst, sym}
use Rattle.span.specs.declared.id.SpanId.{SpanId}
use Rattle.shard.specs.Moves.{MayTakeIn, TakesIn, with_room}
use Rattle.shard.specs.State.{ShardState}
use Rattle.pool.specs.Calls.{Adopts, Lifts}
use Rattle.pool.proofs.Adopted.{Adopts-taken, MayTakeIn-adopted}
use Rattle.pool.proofs.Together.{together-Adopts}
use Rattle.pool.proofs.pool.Pool.move_to.Goals as goal

pub unreachable-requires : goal.unreachable-requires
unreachable-requires g c = (c.in_default.ensures {u = tt}).lifts.0 c.requires.lowest.0 c.requires.lowest.1 (record { here = c.requires.lowest.2.here; head_is = c.requires.lowest.3 })

pub take_in-requires : goal.take_in-requires
take_in-requires g c =
    let lowest = c.requires.lowest in
    let spans = c.len_of-spans.ensures.len lowest.0 lowest.1 (record { here = lowest.2.here; head_is = lowest.3 }) in
    let lifts = subst (λ (head : SpanId). Lifts c.args.self.now head (Some c.in-Some.whole) c.lift.new.self) (sym lowest.3) (c.in-Some.ensures {u = tt}).lifts in
    subst (λ (s : ShardState). MayTakeIn s c.in-Some.whole) (sym ((c.in_ok-reserve_for.ensures {u = tt}).ok ∙ ap (with_room c.args.shard.now None) spans))
    (MayTakeIn-adopted c.args.self.now c.lift.new.self c.len_of-spans.ensures.sound c.args.shard.now c.requires.sound_shard lowest.0 lowest.1 lowest.2
    c.in-Some.whole lifts c.requires.apart c.requires.pages c.requires.running)

pub returns-clause-ok : goal.returns-clause-ok
returns-clause-ok g c =
    let lowest = c.requires.lowest in
    let spans = c.len_of-spans.ensures.len lowest.0 lowest.1 (record { here = lowest.2.here; head_is = lowest.3 }) in
    let lifts = subst (λ (head : SpanId). Lifts c.args.self.now head (Some c.in-Some.whole) c.lift.new.self) (sym lowest.3) (c.in-Some.ensures {u = tt}).lifts in
    let takes = subst (λ (s : ShardState). TakesIn s c.in-Some.whole c.take_in.new.self)
    ((c.in_ok-reserve_for.ensures {u = tt}).ok ∙ ap (with_room c.args.shard.now None) spans) c.take_in.ensures.takes in
    subst (λ (head : SpanId). Adopts c.args.self.now c.args.shard.now head c.lift.new.self c.take_in.new.self) lowest.3
    (Adopts-taken c.args.self.now c.lift.new.self c.len_of-spans.ensures.sound c.args.shard.now c.requires.sound_shard lowest.0 lowest.1 lowest.2 c.in-Some.whole lifts c.take_in.new.self takes)

pub returns-clause-kept : goal.returns-clause-kept
returns-clause-kept g c =
    let takes = subst (λ (s : ShardState). TakesIn s c.in-Some.whole c.take_in.new.self) (c.in_ok-reserve_for.ensures {u = tt}).ok c.take_in.ensures.takes in
    together-Adopts c.args.self.now c.lift.new.self c.args.shard.now c.take_in.new.self c.args.head c.in-Some.whole c.len_of-spans.result
    c.len_of-spans.ensures.sound c.lift.ensures.sound c.requires.sound_shard c.take_in.ensures.sound (c.in-Some.ensures {u = tt}).lifts takes
