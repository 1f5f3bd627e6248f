-- A mark of the shards that were made sees what one of all shards would see.
use Rattle.std.proofs.Common.{◌≡◌, ◌<◌, List, inl, inr, length, refl, subst, sym, map}
use Rattle.groups.specs.Group.{paged_in, summary}
use Rattle.shard.specs.State.{ShardState}
use Rattle.span.specs.declared.entry.Entry.{Entry}
use Rattle.pool.specs.State.{PoolState}
use Rattle.certificate.specs.declared.certificate.Certificate.{Certificate}
use Rattle.mesh_graph.specs.Sparsest.{AreSparsest}
use Rattle.mesh_graph.specs.Groups.{ids}
use Rattle.mesh_graph.specs.declared.build.TheConstants.{MOST_GROUPS}
use Rattle.span.specs.Ids.{same_span}
use Rattle.std.specs.List.{IsDistinct}
use Rattle.marks.specs.Closings.{AreOpen}
use Rattle.marks.specs.Numbers.{Limits}
use Rattle.marks.specs.Seen.{AreDistinct, AreTooMany, IsLargest, owned_entries}
use Rattle.marks.specs.declared.sight.Sight.TheVariants.{Sparsest}
use Rattle.arena_core.specs.Made.{all_shards, new_shard_of}
use Rattle.arena_core.proofs.Made.{completed-flat_map, made-get}

module _ (limits : Limits) (made : List ShardState) where
  owned_entries-all : owned_entries (all_shards limits made) ≡ owned_entries made
  owned_entries-all = completed-flat_map 0 limits.shards (new_shard_of limits) (λ shard. map summary (paged_in shard.groups)) (λ k. refl) made

  pub AreTooMany-made : (pool : PoolState) → AreTooMany pool (all_shards limits made) → AreTooMany pool made
  AreTooMany-made pool (inl many) = inl many
  AreTooMany-made pool (inr many) = inr (subst (λ (entries : List Entry). MOST_GROUPS < length entries) owned_entries-all many)

  pub AreTooMany-all : (pool : PoolState) → AreTooMany pool made → AreTooMany pool (all_shards limits made)
  AreTooMany-all pool (inl many) = inl many
  AreTooMany-all pool (inr many) = inr (subst (λ (entries : List Entry). MOST_GROUPS < length entries) (sym owned_entries-all) many)

  pub AreDistinct-made : (pool : PoolState) → AreDistinct pool (all_shards limits made) → AreDistinct pool made
  AreDistinct-made pool distinct = record {
    abandoned = distinct.abandoned;
    owned = subst (λ (entries : List Entry). IsDistinct same_span (ids entries)) owned_entries-all distinct.owned;
  }

  pub IsLargest-all : (pool : PoolState) (found : Certificate) → IsLargest Sparsest pool made found → IsLargest Sparsest pool (all_shards limits made) found
  IsLargest-all pool found largest = record {
    seen = record {
      abandoned = largest.seen.abandoned;
      owned = subst (λ (entries : List Entry). AreSparsest MOST_GROUPS entries found.snapshot.owned) (sym owned_entries-all) largest.seen.owned;
      abandoned_ascending = largest.seen.abandoned_ascending;
      owned_ascending = largest.seen.owned_ascending;
    };
    shown = largest.shown;
  }

  pub AreOpen-made : AreOpen (all_shards limits made) → AreOpen made
  AreOpen-made opened number shard here = opened number shard (made-get limits made number shard here)
