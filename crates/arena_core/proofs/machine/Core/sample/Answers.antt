use Rattle.std.proofs.Common.{◌≡◌, ◌∙◌, ap, arith, refl, subst, sum_by, sym, take, take_all}
use Rattle.std.proofs.lemmas.List.Sums.{sum_by_more}
use Rattle.arena_core.specs.Estimate.{IsSampled, live_by, pages_by}
use Rattle.arena_core.specs.Kept.{shards_of}
use Rattle.arena_core.specs.Made.{new_shard_of}
use Rattle.arena_core.proofs.Fields.{IsFew, IsFew-fields}
use Rattle.arena_core.proofs.Made.{completed-sum}
use Rattle.arena_core.proofs.machine.Core.sample.Goals as goal

pub overflow_add-totals : goal.overflow_add-totals
overflow_add-totals g c =
    let few : IsFew c.loop-shard.shard-index c.shard-item.result = IsFew-fields c.self.inside c.deref-shard-items.result.now c.loop-shard.shard-index
    c.shard-item.result c.self.invariant.sound.groups c.deref-shard-items.ensures.value c.loop-shard-test.true c.shard-item.is in
    omega (arith, few.shards, few.pages, c.sample-owned.ensures.few, c.sample-pooled.ensures.few, c.sample-pooled.ensures.groups, c.loop-shard.invariant.few_pages)

pub overflow_add-totals-in-loop-shard : goal.overflow_add-totals-in-loop-shard
overflow_add-totals-in-loop-shard g c =
    let few : IsFew c.loop-shard.shard-index c.shard-item.result = IsFew-fields c.self.inside c.deref-shard-items.result.now c.loop-shard.shard-index
    c.shard-item.result c.self.invariant.sound.groups c.deref-shard-items.ensures.value c.loop-shard-test.true c.shard-item.is in
    omega (arith, few.shards, few.pages, c.sample-owned.ensures.few_live, c.sample-pooled.ensures.few_live, c.sample-pooled.ensures.groups, c.loop-shard.invariant.few_keys)

pub loop-shard-preserved : goal.loop-shard-preserved
loop-shard-preserved g c =
    let few : IsFew c.loop-shard.shard-index c.shard-item.result = IsFew-fields c.self.inside c.deref-shard-items.result.now c.loop-shard.shard-index
    c.shard-item.result c.self.invariant.sound.groups c.deref-shard-items.ensures.value c.loop-shard-test.true c.shard-item.is in
    record {
      pages = omega (
        arith,
        sum_by_more (pages_by c.args.gap) c.deref-shard-items.result.now c.loop-shard.shard-index c.shard-item.result c.loop-shard-test.true,
        ap (pages_by c.args.gap) c.shard-item.is,
        c.sample-owned.ensures.pages,
        c.loop-shard.invariant.pages,
      );
      live = omega (
        arith,
        sum_by_more (live_by c.args.gap) c.deref-shard-items.result.now c.loop-shard.shard-index c.shard-item.result c.loop-shard-test.true,
        ap (live_by c.args.gap) c.shard-item.is,
        c.sample-owned.ensures.live,
        c.loop-shard.invariant.live,
      );
      few_pages = omega (arith, few.pages, c.sample-owned.ensures.few, c.loop-shard.invariant.few_pages);
      few_keys = omega (arith, few.pages, c.sample-owned.ensures.few_live, c.loop-shard.invariant.few_keys);
    }

-- the sum over those that were made is that over all
pub returns : goal.returns
returns g c =
    let shards = c.deref-shard-items.result.now in
    let all : take c.loop-shard.shard-index shards ≡ shards = take_all c.loop-shard.shard-index shards (omega arith) in
    let pages : sum_by (pages_by c.args.gap) (take c.loop-shard.shard-index shards) ≡ sum_by (pages_by c.args.gap) (shards_of c.self.inside) =
    ap (sum_by (pages_by c.args.gap)) (all ∙ c.deref-shard-items.ensures.value) ∙ sym (completed-sum 0 c.self.inside.limits.shards (new_shard_of c.self.inside.limits) (pages_by c.args.gap) (λ k. refl) c.self.inside.shards.items) in
    let live : sum_by (live_by c.args.gap) (take c.loop-shard.shard-index shards) ≡ sum_by (live_by c.args.gap) (shards_of c.self.inside) =
    ap (sum_by (live_by c.args.gap)) (all ∙ c.deref-shard-items.ensures.value) ∙ sym (completed-sum 0 c.self.inside.limits.shards (new_shard_of c.self.inside.limits) (live_by c.args.gap) (λ k. refl) c.self.inside.shards.items) in
    subst (λ s. IsSampled c.args.gap s c.loop-shard.totals) c.self.view_is (record {
      pooled = c.sample-pooled.result;
      samples = c.sample-pooled.ensures.samples;
      pages = omega (arith, c.loop-shard.invariant.pages, pages);
      live = omega (arith, c.loop-shard.invariant.live, live);
    })
