use Rattle.std.proofs.Common.{◌∙◌, ◌++◌, ap, map, sym, take}
use Rattle.shard.proofs.Entries.{entries_in}
use Rattle.marks.specs.Seen.{owned_entries}
use Rattle.marks.proofs.Entries.{owned-more}
use Rattle.marks.proofs.Ranks.{ranks-append, ranks_of}
use Rattle.marks.proofs.own_heads.list_ranks.Goals as goal

pub loop-shard-preserved : goal.loop-shard-preserved
loop-shard-preserved g c =
    let lent = g.H.LendsShard.lent in
    let index = c.loop-shard.shard-index in
    let more = entries_in (lent c.shard-item.result).groups in
    (c.in_ok-push_ranks.ensures {u = tt})
    ∙ ap (λ ranks. ranks ++ ranks_of more) c.loop-shard.invariant
    ∙ sym (ranks-append (owned_entries (map lent (take index c.args.shards.now))) more)
    ∙ ap ranks_of (owned-more lent c.args.shards.now index c.shard-item.result c.loop-shard-test.true c.shard-item.is)
