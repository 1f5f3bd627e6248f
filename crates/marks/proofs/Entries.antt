-- The groups that a mark sees, as entries.
use Rattle.std.proofs.Common.{◌≡◌, ℕ, ◌+◌, ◌<◌, ◌≤◌, List, [], ◌∷◌, ◌++◌, length, map, refl, sym, ap, ◌∙◌, arith, inl, inr, nat_lt, get_or, take, ◌-◌, ◌^◌, ◌↔◌}
use Rattle.std.specs.Prelude.{IsTrue, min, sum_by}
use Rattle.std.proofs.lemmas.Bool.{lt-ltb, ltb-true}
use Rattle.std.proofs.lemmas.List.{flat_map_more, length-append, length-map, map-append, take_more}
use Rattle.std.proofs.lemmas.List.Sums.{sum_by-cons}
use Rattle.shard.specs.State.{ShardState}
use Rattle.shard.proofs.Entries.{entries_in}
use Rattle.groups.specs.Group.{paged_in, summary}
use Rattle.pool.specs.State.{PoolState, paged_groups}
use Rattle.marks.specs.Seen.{AreTooMany, owned_entries}
use Rattle.mesh_graph.specs.declared.build.TheConstants.{MOST_GROUPS}

-- as many owned groups as the shards have pages
pub length-owned : (shards : List ShardState) → length (owned_entries shards) ≡ sum_by (λ shard. length (paged_in shard.groups)) shards
length-owned [] = refl
length-owned (shard ∷ shards) =
    length-append (entries_in shard.groups) (owned_entries shards)
    ∙ omega (arith, length-map (paged_in shard.groups) summary, length-owned shards, sum_by-cons (λ (s : ShardState). length (paged_in s.groups)) shard shards)

-- the entries of one shard more
pub owned-more : {H : Type 0} (lent : H → ShardState) (shards : List H) (index : ℕ) (shard : H) → index < length shards → shard ≡ get_or shards index shard
    → owned_entries (map lent (take index shards)) ++ entries_in (lent shard).groups ≡ owned_entries (map lent (take (index + 1) shards))
owned-more lent shards index shard within is =
    flat_map_more (λ (s : ShardState). entries_in s.groups) [] (map lent (take index shards)) (lent shard)
    ∙ ap owned_entries (sym (map-append lent (take index shards) (shard ∷ [])) ∙ ap (map lent) (ap (λ s. take index shards ++ s ∷ []) is ∙ sym (take_more shards index shard within)))

-- where the pool has few groups, a side has too many exactly where the shards have
pub too_many-owned : (pool : PoolState) (shards : List ShardState) (pages owned : ℕ) → pages ≡ length (paged_groups pool) → pages ≤ MOST_GROUPS
    → owned ≡ min (sum_by (λ shard. length (paged_in shard.groups)) shards) (2 ^ 64 - 1)
    → IsTrue (nat_lt MOST_GROUPS owned) ↔ AreTooMany pool shards
too_many-owned pool shards pages owned pages_is few owned_is = (
  λ more. inr (omega (arith, ltb-true MOST_GROUPS owned more, length-owned shards)),
  λ many. elim many [
    | inl in_pool ↦ absurd (omega (arith, length-map (paged_groups pool) summary))
    | inr in_shards ↦ lt-ltb MOST_GROUPS owned (omega (arith, length-owned shards))
  ],
)
