use Rattle.std.proofs.Common.{List, arith, map, subst}
use Rattle.std.specs.List.{IsDistinct}
use Rattle.std.proofs.lemmas.List.{take_all}
use Rattle.span.specs.Ids.{same_span}
use Rattle.mesh_graph.specs.Groups.{ids}
use Rattle.shard.proofs.Entries.{entries_in}
use Rattle.marks.specs.Apart.{AreWithin}
use Rattle.marks.specs.Seen.{owned_entries}
use Rattle.marks.proofs.Apart.{AreWithin-append, within-start}
use Rattle.marks.proofs.Entries.{owned-more}
use Rattle.marks.proofs.own_heads.are_apart.Goals as goal

pub loop-shard-init : goal.loop-shard-init
loop-shard-init g c = within-start g.H.LendsShard.lent c.args.shards.now

pub loop-shard-preserved : goal.loop-shard-preserved
loop-shard-preserved g c =
    let lent = g.H.LendsShard.lent in
    let past = c.in-Some.past in
    let within : AreWithin c.loop-shard.next past (entries_in (lent c.shard-item.result).groups) = c.in-Some.ensures.within in
    subst (AreWithin 0 past) (owned-more lent c.args.shards.now c.loop-shard.shard-index c.shard-item.result c.loop-shard-test.true c.shard-item.is)
    (AreWithin-append 0 c.loop-shard.next past _ (entries_in (lent c.shard-item.result).groups) (omega arith) c.in-Some.ensures.up c.loop-shard.invariant within)

pub returns : goal.returns
returns g c = λ _. subst (λ (shards : List g.row.H.Denot). IsDistinct same_span (ids (owned_entries (map g.H.LendsShard.lent shards))))
    (take_all c.loop-shard.shard-index c.args.shards.now (omega (arith, c.loop-shard-test.false))) c.loop-shard.invariant.distinct
