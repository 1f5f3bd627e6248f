-- Where a head would stand among the pool's groups, and how many there are.
use Rattle.std.proofs.Common.{◌≡◌, ℕ, zero, suc, ◌<◌, ◌≤◌, List, length, Some, slice_get, inl, inr, arith}
use Rattle.std.proofs.lemmas.Bool.{cases_lt}
use Rattle.std.proofs.lemmas.Option.{slice_get_within}
use Rattle.span.specs.Ids.{rank}
use Rattle.span.specs.declared.limits.TheConstants.{ALL_IDS, MOST_SHARDS, MOST_SPANS}
use Rattle.groups.proofs.Lists.{there_at}
use Rattle.pool.specs.State.{PooledState}
use Rattle.groups.specs.Group.{Ascend}

-- heads that ascend are at most as many as there are ids
pub at_most_ids : (groups : List PooledState) → Ascend groups → length groups ≤ ALL_IDS
at_most_ids groups ascend = elim (cases_lt ALL_IDS (length groups)) [
  | inl many ↦ absurd (let last = there_at groups ALL_IDS many in
      let high = below_rank ALL_IDS last.0 last.1 in
      let fits : last.0.head.id.shard < MOST_SHARDS = last.0.head.id.shard_in_range in
      let fits' : last.0.head.id.serial < MOST_SPANS = last.0.head.id.serial_in_range in
      omega arith)
  | inr few ↦ few
]
  where
    below_rank : (index : ℕ) (group : PooledState) → slice_get groups index ≡ Some group → index ≤ rank group.head.id
    below_rank zero group here = omega arith
    below_rank (suc index) group here =
        let earlier = there_at groups index (let less = slice_get_within groups (suc index) group here in omega arith) in
        let low = below_rank index earlier.0 earlier.1 in
        let less = ascend index (suc index) earlier.0 group (omega arith) earlier.1 here in
        omega arith
