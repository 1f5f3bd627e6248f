use Rattle.std.proofs.Common.{◌≡◌, ◌≤◌, ◌∙◌, ap, arith, length, refl, sum_by, sym, take, take_all}
use Rattle.std.proofs.lemmas.List.Sums.{sum_by_more}
use Rattle.span.specs.declared.limits.TheConstants.{ALL_IDS}
use Rattle.pool.proofs.HeadPlaces.{at_most_ids}
use Rattle.shard.specs.State.{ShardState}
use Rattle.arena_core.specs.Estimate.{group_count}
use Rattle.arena_core.specs.Kept.{shards_of}
use Rattle.arena_core.specs.Made.{new_shard_of}
use Rattle.arena_core.proofs.Fields.{IsFew, IsFew-fields}
use Rattle.arena_core.proofs.Made.{completed-sum}
use Rattle.arena_core.proofs.machine.Core.group_count.Goals as goal

pub overflow_add-count : goal.overflow_add-count
overflow_add-count g c =
    let few : IsFew c.loop-shard.shard-index c.shard-item.result = IsFew-fields c.self.inside c.deref-shard-items.result.now c.loop-shard.shard-index
    c.shard-item.result c.self.invariant.sound.groups c.deref-shard-items.ensures.value c.loop-shard-test.true c.shard-item.is in
    let pooled : length c.self.inside.pool.groups ≤ ALL_IDS = at_most_ids c.self.inside.pool.groups c.self.invariant.sound.groups.pool.ascending in
    omega (arith, few.shards, few.pages, pooled, c.len-count.ensures, c.len-count-in-loop-shard.ensures, c.loop-shard.invariant.few)

pub loop-shard-preserved : goal.loop-shard-preserved
loop-shard-preserved g c =
    let few : IsFew c.loop-shard.shard-index c.shard-item.result = IsFew-fields c.self.inside c.deref-shard-items.result.now c.loop-shard.shard-index
    c.shard-item.result c.self.invariant.sound.groups c.deref-shard-items.ensures.value c.loop-shard-test.true c.shard-item.is in
    record {
      count = omega (
        arith,
        sum_by_more (λ (shard : ShardState). length shard.groups) c.deref-shard-items.result.now c.loop-shard.shard-index c.shard-item.result c.loop-shard-test.true,
        ap (λ (shard : ShardState). length shard.groups) c.shard-item.is,
        c.len-count-in-loop-shard.ensures,
        c.loop-shard.invariant.count,
      );
      few = omega (arith, few.pages, c.len-count-in-loop-shard.ensures, c.loop-shard.invariant.few);
    }

-- the sum over those that were made is that over all
pub returns-clause-count : goal.returns-clause-count
returns-clause-count g c =
    let shards = c.deref-shard-items.result.now in
    let all : take c.loop-shard.shard-index shards ≡ shards = take_all c.loop-shard.shard-index shards (omega arith) in
    let owned : sum_by (λ (shard : ShardState). length shard.groups) (take c.loop-shard.shard-index shards) ≡ sum_by (λ (shard : ShardState). length shard.groups) (shards_of c.self.inside) =
    ap (sum_by (λ (shard : ShardState). length shard.groups)) (all ∙ c.deref-shard-items.ensures.value) ∙ sym (completed-sum 0 c.self.inside.limits.shards (new_shard_of c.self.inside.limits) (λ (shard : ShardState). length shard.groups) (λ k. refl) c.self.inside.shards.items) in
    omega (arith, c.loop-shard.invariant.count, owned, c.len-count.ensures) ∙ ap group_count c.self.view_is
