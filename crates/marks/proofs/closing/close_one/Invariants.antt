use Rattle.std.proofs.Common.{◌≡◌, ℕ, ◌<◌, Some, map, slice_get}
use Rattle.shard.specs.Closes.{HasNoPagedHead}
use Rattle.shard.specs.State.{ShardState}
use Rattle.marks.proofs.closing.close_one.Given as goal

abbrev pub invariant-loop-place : goal.invariant-loop-place
invariant-loop-place g l =
    let lent = g.H.LendsShard.lent in
    record {
      same : map lent l.shards ≡ map lent l.fn.shards;
      none : (place : ℕ) (shard : ShardState) → place < l.place → slice_get (map lent l.fn.shards) place ≡ Some shard → HasNoPagedHead shard.groups l.pair.1;
    }
