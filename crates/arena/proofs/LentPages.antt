-- The pages of shards that are lent.
use Rattle.std.proofs.Common.{◌≡◌, List, [], ◌∷◌, Option, Some, None, length, refl, arith}
use Rattle.std.specs.Prelude.{sum_by}
use Rattle.std.proofs.lemmas.List.Sums.{sum_by-cons}
use Rattle.groups.specs.Group.{paged_in}
use Rattle.shard.specs.State.{ShardState}
use Rattle.arena.specs.Amounts.{owned_pages, shard_pages}
use Rattle.arena.specs.Locked.{those_lent}

-- all shards have as many pages as those that are lent
pub pages-lent : (shards : List (Option ShardState)) → owned_pages shards ≡ sum_by (λ shard. length (paged_in shard.groups)) (those_lent shards)
pages-lent [] = refl
pages-lent (None ∷ shards) = omega (arith, sum_by-cons shard_pages None shards, pages-lent shards)
pages-lent (Some shard ∷ shards) =
    omega (arith, sum_by-cons shard_pages (Some shard) shards, sum_by-cons (λ (s : ShardState). length (paged_in s.groups)) shard (those_lent shards), pages-lent shards)
