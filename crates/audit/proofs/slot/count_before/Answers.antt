use Rattle.std.proofs.Common.{ltb, rules}
use Rattle.std.proofs.lemmas.List.Sorted.{IsPartitionPoint-from_clause, IsPartitionedBy-ltb}
use Rattle.audit.specs.Slots.{change_rank}
use Rattle.audit.proofs.BySlot.{low_from, high_from}
use Rattle.audit.proofs.slot.count_before.Goals as goal

pub returns : goal.returns
returns c =
    let found = c.args.found.now in
    let n = c.partition_point.result in
    let point = IsPartitionPoint-from_clause (λ y. ltb (change_rank y) c.args.rank) found n c.partition_point.ensures.partitioned
    (IsPartitionedBy-ltb change_rank found c.args.rank c.requires) (λ a r q k. search rules) in
    record { bound = c.partition_point.ensures.bound; low = low_from found c.args.rank n point.0; high = high_from found c.args.rank n point.1 }
