use Rattle.std.proofs.Common.{◌≡◌, ap, arith, is_some, length, subst, sym, take, ◌∙◌, sum_by, take_all, refl}
use Rattle.std.proofs.lemmas.List.Sums.{sum_by_more}
use Rattle.groups.specs.Group.{paged_in}
use Rattle.shard.specs.State.{ShardState}
use Rattle.pool.specs.State.{PooledState}
use Rattle.arena_core.proofs.Fields.{IsFew, IsFew-fields}
use Rattle.arena_core.proofs.Lists.{length-filter_most}
use Rattle.arena_core.specs.Sound.{IsSound}
use Rattle.arena_core.specs.State.{HasKeys, live_keys, pages, shard_keys, shown}
use Rattle.arena_core.specs.Kept.{shards_of}
use Rattle.arena_core.proofs.Made.{completed-sum}
use Rattle.arena_core.proofs.LiveKeysShown.{HasKeys-live_keys}
use Rattle.arena_core.proofs.machine.Core.totals.Goals as goal
use Rattle.arena_core.specs.Made.{new_shard_of}

pub overflow_add-totals : goal.overflow_add-totals
overflow_add-totals g c =
    let few : IsFew c.loop-shard.shard-index c.shard-item.result = IsFew-fields c.self.inside c.deref-shard-items.result.now c.loop-shard.shard-index
    c.shard-item.result c.self.invariant.sound.groups c.deref-shard-items.ensures.value c.loop-shard-test.true c.shard-item.is in
    omega (arith, few.shards, few.pages, c.pages.ensures, c.live.ensures.groups, length-filter_most (λ (group : PooledState). is_some group.page) c.self.inside.pool.groups)

pub overflow_add-totals-in-loop-shard : goal.overflow_add-totals-in-loop-shard
overflow_add-totals-in-loop-shard g c =
    let few : IsFew c.loop-shard.shard-index c.shard-item.result = IsFew-fields c.self.inside c.deref-shard-items.result.now c.loop-shard.shard-index
    c.shard-item.result c.self.invariant.sound.groups c.deref-shard-items.ensures.value c.loop-shard-test.true c.shard-item.is in
    omega (arith, few.shards, few.pages, c.live-in-loop-shard.ensures.at_most, c.live.ensures.at_most, c.live.ensures.groups, c.loop-shard.invariant.few_keys)

pub loop-shard-preserved : goal.loop-shard-preserved
loop-shard-preserved g c =
    let few : IsFew c.loop-shard.shard-index c.shard-item.result = IsFew-fields c.self.inside c.deref-shard-items.result.now c.loop-shard.shard-index
    c.shard-item.result c.self.invariant.sound.groups c.deref-shard-items.ensures.value c.loop-shard-test.true c.shard-item.is in
    record {
      pages = omega (
        arith,
        sum_by_more
            (λ (shard : ShardState). length (paged_in shard.groups)) c.deref-shard-items.result.now c.loop-shard.shard-index c.shard-item.result
            c.loop-shard-test.true,
        ap (λ (shard : ShardState). length (paged_in shard.groups)) c.shard-item.is,
      );
      live = omega (arith, sum_by_more shard_keys c.deref-shard-items.result.now c.loop-shard.shard-index c.shard-item.result c.loop-shard-test.true, ap shard_keys c.shard-item.is);
      few_pages = omega (arith, few.pages);
      few_keys = omega (arith, few.pages, c.live-in-loop-shard.ensures.at_most);
    }

-- the sum over those that were made is that over all
pub returns-clause-pages : goal.returns-clause-pages
returns-clause-pages g c =
    let shards = c.deref-shard-items.result.now in
    let all : take c.loop-shard.shard-index shards ≡ shards = take_all c.loop-shard.shard-index shards (omega arith) in
    let owned : sum_by (λ (shard : ShardState). length (paged_in shard.groups)) (take c.loop-shard.shard-index shards) ≡ sum_by (λ (shard : ShardState). length (paged_in shard.groups)) (shards_of c.self.inside) =
    ap (sum_by (λ (shard : ShardState). length (paged_in shard.groups))) (all ∙ c.deref-shard-items.ensures.value) ∙ sym (completed-sum 0 c.self.inside.limits.shards (new_shard_of c.self.inside.limits) (λ (shard : ShardState). length (paged_in shard.groups)) (λ k. refl) c.self.inside.shards.items) in
    omega (arith, c.loop-shard.invariant.pages, owned, c.pages.ensures) ∙ ap pages c.self.view_is

pub returns-clause-live : goal.returns-clause-live
returns-clause-live g c =
    let shards = c.deref-shard-items.result.now in
    let all : take c.loop-shard.shard-index shards ≡ shards = take_all c.loop-shard.shard-index shards (omega arith) in
    let owned : sum_by shard_keys (take c.loop-shard.shard-index shards) ≡ sum_by shard_keys (shards_of c.self.inside) =
    ap (sum_by shard_keys) (all ∙ c.deref-shard-items.ensures.value) ∙ sym (completed-sum 0 c.self.inside.limits.shards (new_shard_of c.self.inside.limits) shard_keys (λ k. refl) c.self.inside.shards.items) in
    omega (arith, c.loop-shard.invariant.live, owned, c.live.ensures.live) ∙ ap live_keys c.self.view_is

pub returns-clause-shown : goal.returns-clause-shown
returns-clause-shown g c =
    subst (HasKeys (shown c.args.self.now)) (sym (returns-clause-live g c)) (HasKeys-live_keys c.args.self.now (subst IsSound c.self.view_is c.self.invariant.sound).groups)
