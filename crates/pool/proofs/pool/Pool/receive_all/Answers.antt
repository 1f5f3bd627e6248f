use Rattle.std.proofs.Common.{◌∙◌, map, subst, sym}
use Rattle.groups.specs.Whole.{whole_of}
use Rattle.pool.specs.Calls.{TakesAll}
use Rattle.pool.specs.Handover.{AreApart}
use Rattle.pool.specs.State.{PoolState}
use Rattle.pool.proofs.Arrived.{HasReceived-TakesAll}
use Rattle.pool.proofs.Received.{AreApart-receiving, ended_after}
use Rattle.pool.proofs.TakenIn.{IsSound-with_rooms}
use Rattle.pool.proofs.Together.{together-Receives}
use Rattle.pool.proofs.pool.Pool.receive_all.Goals as goal

pub take_all-requires-clause-apart : goal.take_all-requires-clause-apart
take_all-requires-clause-apart g c =
    subst (λ (p : PoolState). AreApart p c.args.shard.now) (sym (c.in_ok-reserve.ensures {u = tt}).ok)
    (AreApart-receiving c.args.self.now c.args.shard.now c.requires.sound c.requires.sound_shard c.requires.apart)

pub returns-clause-ok : goal.returns-clause-ok
returns-clause-ok g c = record {
  group_room = c.len.result;
  span_room = c.span_count.result;
  running = c.requires.running;
  moved = subst (λ (p : PoolState). TakesAll p (map whole_of c.args.shard.now.groups) c.take_all.new.self) (c.in_ok-reserve.ensures {u = tt}).ok c.take_all.ensures.moved;
  after = c.set_ended.ensures.ended ∙ ended_after c.args.shard.now c.take_all.new.shard c.take_all.ensures.emptied;
}

pub returns-clause-kept : goal.returns-clause-kept
returns-clause-kept g c =
    together-Receives c.args.self.now c.take_all.new.self c.args.shard.now c.len.result c.span_count.result c.requires.sound c.take_all.ensures.sound c.requires.sound_shard
    (AreApart-receiving c.args.self.now c.args.shard.now c.requires.sound c.requires.sound_shard c.requires.apart)
    (subst (λ (p : PoolState). TakesAll p (map whole_of c.args.shard.now.groups) c.take_all.new.self) (c.in_ok-reserve.ensures {u = tt}).ok c.take_all.ensures.moved)

pub returns-clause-whole : goal.returns-clause-whole
returns-clause-whole g c =
    HasReceived-TakesAll c.args.self.now c.take_all.new.self c.args.shard.now c.len.result c.span_count.result (IsSound-with_rooms c.args.self.now c.len.result c.span_count.result c.requires.sound)
    (subst (λ (p : PoolState). TakesAll p (map whole_of c.args.shard.now.groups) c.take_all.new.self) (c.in_ok-reserve.ensures {u = tt}).ok c.take_all.ensures.moved)
