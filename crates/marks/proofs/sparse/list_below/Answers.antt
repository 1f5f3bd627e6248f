use Rattle.std.proofs.Common.{List, arith, map, subst, take}
use Rattle.std.proofs.lemmas.List.{take_all}
use Rattle.pool.specs.Sparse.{AreParted}
use Rattle.span.specs.declared.entry.Entry.{Entry}
use Rattle.marks.specs.Seen.{AreSound, owned_entries}
use Rattle.marks.proofs.Closings.{AreSound-more}
use Rattle.marks.proofs.Entries.{owned-more}
use Rattle.marks.proofs.SparseSeen.{parted-none, sound-none}
use Rattle.marks.proofs.sparse.list_below.Goals as goal

pub loop-shard-init : goal.loop-shard-init
loop-shard-init g c = record {
  parted = rw c.new-entries.ensures.items (parted-none g.H.LendsShard.lent c.args.bound c.args.shards.now);
  sound = sound-none g.H.LendsShard.lent c.args.shards.now;
}

pub loop-shard-preserved : goal.loop-shard-preserved
loop-shard-preserved g c =
    let lent = g.H.LendsShard.lent in
    let index = c.loop-shard.shard-index in
    record {
      parted = subst (λ (entries : List Entry). AreParted c.args.bound entries c.push_groups_below.new.entries.items)
          (owned-more lent c.args.shards.now index c.shard-item.result c.loop-shard-test.true c.shard-item.is)
          ((c.in_ok-push_groups_below.ensures {u = tt}).parted (owned_entries (map lent (take index c.args.shards.now))) c.loop-shard.invariant.parted);
      sound = AreSound-more lent c.args.shards.now index c.shard-item.result c.loop-shard-test.true c.shard-item.is c.loop-shard.invariant.sound c.push_groups_below.ensures.sound;
    }

pub returns-clause-parted : goal.returns-clause-parted
returns-clause-parted g c =
    subst (λ (shards : List g.row.H.Denot). AreParted c.args.bound (owned_entries (map g.H.LendsShard.lent shards)) c.loop-shard.entries.items)
    (take_all c.loop-shard.shard-index c.args.shards.now (omega (arith, c.loop-shard-test.false))) c.loop-shard.invariant.parted

pub returns-clause-sound : goal.returns-clause-sound
returns-clause-sound g c =
    subst (λ (shards : List g.row.H.Denot). AreSound (map g.H.LendsShard.lent shards))
    (take_all c.loop-shard.shard-index c.args.shards.now (omega (arith, c.loop-shard-test.false))) c.loop-shard.invariant.sound
