use Rattle.std.proofs.Common.{◌∙◌, ◌++◌, List, ap, arith, map, subst}
use Rattle.std.proofs.lemmas.List.{take_all}
use Rattle.marks.specs.Seen.{AreSound}
use Rattle.marks.proofs.Closings.{AreSound-more}
use Rattle.shard.proofs.Entries.{entries_in}
use Rattle.marks.proofs.Entries.{owned-more}
use Rattle.marks.proofs.marking.list_owned.Goals as goal

pub loop-shard-preserved : goal.loop-shard-preserved
loop-shard-preserved g c =
    let lent = g.H.LendsShard.lent in
    record {
      items = (c.in_ok-push_groups.ensures {u = tt}).items
          ∙ ap (λ entries. entries ++ entries_in (lent c.shard-item.result).groups) c.loop-shard.invariant.items
          ∙ owned-more lent c.args.shards.now c.loop-shard.shard-index c.shard-item.result c.loop-shard-test.true c.shard-item.is;
      sound = AreSound-more lent c.args.shards.now c.loop-shard.shard-index c.shard-item.result c.loop-shard-test.true c.shard-item.is c.loop-shard.invariant.sound c.push_groups.ensures.sound;
    }

pub returns-clause-sound : goal.returns-clause-sound
returns-clause-sound g c =
    subst (λ (shards : List g.row.H.Denot). AreSound (map g.H.LendsShard.lent shards))
    (take_all c.loop-shard.shard-index c.args.shards.now (omega (arith, c.loop-shard-test.false))) c.loop-shard.invariant.sound
