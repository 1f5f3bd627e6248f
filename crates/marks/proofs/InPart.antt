-- A mark that sees the sparsest groups, and one that sees all.
use Rattle.std.proofs.Common.{◌≡◌, ◌<◌, ◌≤◌, Err, List, Result, inl, inr, length, subst}
use Rattle.std.proofs.lemmas.Result.{MatchResult-at_err}
use Rattle.std.proofs.lemmas.Bool.{cases_lt}
use Rattle.shard.specs.State.{ShardState}
use Rattle.pool.specs.State.{PoolState}
use Rattle.span.specs.declared.entry.Entry.{Entry}
use Rattle.mesh_graph.specs.Groups.{Groups, IsAscending, ids}
use Rattle.mesh_graph.specs.Sparsest.{AreSparsest}
use Rattle.mesh_graph.proofs.Sparsest.{AreSparsest-permuted, permutation-few}
use Rattle.certificate.specs.declared.certificate.Certificate.{Certificate}
use Rattle.marks.specs.declared.error.MarkError.{MarkError}
use Rattle.marks.specs.declared.error.MarkError.TheVariants.{TooMany}
use Rattle.marks.specs.declared.sight.Sight.{Sight}
use Rattle.marks.specs.declared.sight.Sight.TheVariants.{All, Sparsest}
use Rattle.marks.specs.Opening.{IsRefused, Marks, OpensPlan}
use Rattle.marks.specs.Seen.{IsInSight, IsLargest, IsSeen, IsSeenInPart, IsTooMany, abandoned_entries, owned_entries}
use Rattle.mesh_graph.specs.declared.build.TheConstants.{MOST_GROUPS}

-- the sparsest of a snapshot of all
pub IsSeenInPart-sparsest : (pool : PoolState) (shards : List ShardState) (all groups : Groups) → IsSeen pool shards all
    → AreSparsest MOST_GROUPS all.abandoned groups.abandoned → AreSparsest MOST_GROUPS all.owned groups.owned
    → IsAscending (ids groups.abandoned) → IsAscending (ids groups.owned) → IsSeenInPart pool shards groups
IsSeenInPart-sparsest pool shards all groups seen abandoned owned abandoned_up owned_up = record {
  abandoned = AreSparsest-permuted MOST_GROUPS (abandoned_entries pool) all.abandoned groups.abandoned seen.abandoned abandoned;
  owned = AreSparsest-permuted MOST_GROUPS (owned_entries shards) all.owned groups.owned seen.owned owned;
  abandoned_ascending = abandoned_up;
  owned_ascending = owned_up;
}

-- where not too much is in sight, the sparsest are all of it
pub IsInSight-few : (sight : Sight) (pool : PoolState) (shards : List ShardState) (groups : Groups) → (IsTooMany sight pool shards → ⊥) → IsSeenInPart pool shards groups → IsInSight sight pool shards groups
IsInSight-few Sparsest pool shards groups few seen = seen
IsInSight-few All pool shards groups few seen = record {
  abandoned = permutation-few MOST_GROUPS (abandoned_entries pool) groups.abandoned seen.abandoned
      (few_entries (abandoned_entries pool) (λ many. few (inl many)));
  owned = permutation-few MOST_GROUPS (owned_entries shards) groups.owned seen.owned
      (few_entries (owned_entries shards) (λ many. few (inr many)));
  abandoned_ascending = seen.abandoned_ascending;
  owned_ascending = seen.owned_ascending;
}
  where
    few_entries : (entries : List Entry) → (MOST_GROUPS < length entries → ⊥) → length entries ≤ MOST_GROUPS
    few_entries entries none = elim (cases_lt MOST_GROUPS (length entries)) [
      | inl many ↦ absurd (none many)
      | inr fine ↦ fine
    ]

-- and so is a largest plan of them
pub IsLargest-few : (sight : Sight) (pool : PoolState) (shards : List ShardState) (found : Certificate) → (IsTooMany sight pool shards → ⊥) → IsLargest Sparsest pool shards found → IsLargest sight pool shards found
IsLargest-few sight pool shards found few largest = record { seen = IsInSight-few sight pool shards found.snapshot few largest.seen; shown = largest.shown }

-- a mark of the sparsest never sees too much
pub too_many-sparsest : (sight : Sight) (pool pool_new : PoolState) (shards shards_new : List ShardState) (made : Result Certificate MarkError) → sight ≡ Sparsest
    → Marks sight pool shards made pool_new shards_new → made ≡ Err TooMany → ⊥
too_many-sparsest sight pool pool_new shards shards_new made sparsest marks refused =
    let why = MatchResult-at_err (λ found. OpensPlan sight pool shards found pool_new shards_new)
    (λ error. IsRefused sight pool shards error × (pool_new ≡ pool) × (shards_new ≡ shards)) TooMany refused marks in
    subst (λ some. IsTooMany some pool shards) sparsest why.0.1
