use Rattle.std.proofs.Common.{map}
use Rattle.pool.specs.State.{paged_groups}
use Rattle.marks.specs.Seen.{abandoned_entries, owned_entries}
use Rattle.marks.proofs.Apart.{distinct-heads}
use Rattle.marks.proofs.SparseSeen.{AreSparsest-seen, distinct-found}
use Rattle.marks.proofs.sparse.sparsest_of_few.Goals as goal

pub unreachable-requires : goal.unreachable-requires
unreachable-requires g c =
    let pool = c.args.pool.now in
    let owned = owned_entries (map g.H.LendsShard.lent c.args.shards.now) in
    (c.in_default.ensures {u = tt}).doubled
    (distinct-found (abandoned_entries pool) c.in_ok-abandoned.abandoned.items (c.in_ok-abandoned.ensures {u = tt}).sparsest (distinct-heads (paged_groups pool) c.sparse_groups.ensures.ascending))
    (distinct-found owned c.in_ok-owned.owned.items (c.in_ok-owned.ensures {u = tt}).sparsest c.requires)

pub returns-clause-seen : goal.returns-clause-seen
returns-clause-seen g c =
    let pool = c.args.pool.now in
    let owned = owned_entries (map g.H.LendsShard.lent c.args.shards.now) in
    record {
      abandoned = AreSparsest-seen (abandoned_entries pool) c.in_ok-abandoned.abandoned.items c.in-Ok.snapshot.abandoned c.sparsest.result.abandoned
          (c.in_ok-abandoned.ensures {u = tt}).sparsest (c.in-Ok.ensures {u = tt}).abandoned c.sparsest.ensures.abandoned;
      owned = AreSparsest-seen owned c.in_ok-owned.owned.items c.in-Ok.snapshot.owned c.sparsest.result.owned
          (c.in_ok-owned.ensures {u = tt}).sparsest (c.in-Ok.ensures {u = tt}).owned c.sparsest.ensures.owned;
      abandoned_ascending = c.sparsest.ensures.abandoned_ascending;
      owned_ascending = c.sparsest.ensures.owned_ascending;
    }

pub returns-clause-distinct : goal.returns-clause-distinct
returns-clause-distinct g c = record {
  abandoned = distinct-heads (paged_groups c.args.pool.now) c.sparse_groups.ensures.ascending;
  owned = c.requires;
}
