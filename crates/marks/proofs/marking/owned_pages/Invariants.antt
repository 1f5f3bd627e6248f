use Rattle.std.proofs.Common.{◌≡◌, ◌-◌, ◌^◌, length, map, take}
use Rattle.std.specs.Prelude.{min, sum_by}
use Rattle.groups.specs.Group.{paged_in}
use Rattle.shard.specs.State.{ShardState}
use Rattle.marks.proofs.marking.owned_pages.Given as goal

abbrev pub invariant-loop-shard : goal.invariant-loop-shard
invariant-loop-shard g l = l.pages ≡ min (sum_by (λ (shard : ShardState). length (paged_in shard.groups)) (map g.H.LendsShard.lent (take l.shard-index l.shards))) (2 ^ 64 - 1)
