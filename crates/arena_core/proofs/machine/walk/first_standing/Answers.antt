use Rattle.std.proofs.Common.{length, refl, subst, sym, take}
use Rattle.std.proofs.lemmas.Option.{slice_get_read}
use Rattle.span.specs.Ids.{rank}
use Rattle.groups.proofs.FirstLive.{take-more}
use Rattle.arena_core.specs.NextLive.{IsFirstStanding}
use Rattle.arena_core.proofs.NextLive.{IsFirstStanding-pool, IsFirstStanding-shard}
use Rattle.arena_core.proofs.machine.walk.first_standing.Goals as goal

pub loop-shard-init : goal.loop-shard-init
loop-shard-init g c = IsFirstStanding-pool c.args.pool.now (rank c.args.from) c.first_live-first.result c.first_live-first.ensures.first

pub loop-shard-preserved : goal.loop-shard-preserved
loop-shard-preserved g c =
    let shards = c.args.shards.now in
    let at = c.loop-shard.shard-index in
    let here = slice_get_read shards (length shards) at c.shard-item.result refl c.loop-shard-test.true c.shard-item.is in
    subst (λ xs. IsFirstStanding xs c.args.pool.now (rank c.args.from) c.earlier-first.result) (sym (take-more shards at c.shard-item.result here))
    (IsFirstStanding-shard (take at shards) c.args.pool.now c.shard-item.result (rank c.args.from) c.loop-shard.first c.first_live.result c.earlier-first.result
    c.loop-shard.invariant c.first_live.ensures.first c.earlier-first.ensures)
