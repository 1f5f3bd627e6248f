use Rattle.std.proofs.Common.{◌≡◌, ◌<◌, ◌∙◌, List, Some, ap, arith, length, refl, set, slice_get, sym, take_all}
use Rattle.std.proofs.lemmas.Option.{get_or_from_slice_get, slice_get_read, slice_get_within}
use Rattle.groups.specs.Dead.{dead_guests}
use Rattle.groups.proofs.SpanCounts.{length-spans_more}
use Rattle.shard.specs.State.{ShardState}
use Rattle.shard.proofs.ChangedBelow.{changed_below-all, changed_below-next, get-changed_below, length-changed_below}
use Rattle.arena_core.specs.Forgets.{dead_owned, without_dead_guests}
use Rattle.arena_core.proofs.machine.forgetting.forget_guests.Goals as goal

pub overflow_add-count : goal.overflow_add-count
overflow_add-count c = omega (arith, c.loop-index.invariant.most, c.forget-count.ensures.at_most, c.len-index-end.ensures, c.args.shards.now.ok.0, c.requires)

pub loop-index-preserved : goal.loop-index-preserved
loop-index-preserved c =
    let now = c.loop-index.shards.items in
    let at = c.loop-index.index in
    let first = c.args.shards.now.items in
    let shard = c.index_mut.result.now in
    let is = c.loop-index.invariant.items in
    let here : slice_get now at ≡ Some shard =
    slice_get_read now _ at shard refl (omega (arith, ap length is, length-changed_below without_dead_guests at first, c.len-index-end.ensures, c.args.shards.now.ok.0)) c.index_mut.ensures.value in
    let there : slice_get _ at ≡ Some shard = ap (λ (shards : List ShardState). slice_get shards at) (sym is) ∙ here in
    let was : slice_get first at ≡ Some shard = sym (get-changed_below without_dead_guests at first) ∙ there in
    let within : at < length first = slice_get_within first at shard was in
    let more = length-spans_more (λ (s : ShardState). dead_guests s.groups) first at shard within (sym (get_or_from_slice_get first at shard shard was)) in
    record {
      items = ap (set now at) c.forget-count.ensures.forgets.after ∙ ap (λ (shards : List ShardState). set shards at (without_dead_guests shard)) is
          ∙ changed_below-next without_dead_guests at first shard there;
      count = omega (arith, c.loop-index.invariant.count, c.forget-count.ensures.forgets.count_is, more);
      most = omega (arith, c.loop-index.invariant.most, c.forget-count.ensures.at_most);
    }

pub returns-clause-items : goal.returns-clause-items
returns-clause-items c = c.loop-index.invariant.items
    ∙ changed_below-all without_dead_guests c.loop-index.index c.args.shards.now.items (omega (arith, c.len-index-end.ensures, c.args.shards.now.ok.0))

pub returns-clause-count : goal.returns-clause-count
returns-clause-count c =
    c.loop-index.invariant.count
    ∙ ap (λ (shards : List ShardState). length (dead_owned shards)) (take_all c.loop-index.index c.args.shards.now.items (omega (arith, c.len-index-end.ensures, c.args.shards.now.ok.0)))

pub returns-clause-at_most : goal.returns-clause-at_most
returns-clause-at_most c = omega (arith, c.loop-index.invariant.most, c.len-index-end.ensures, c.args.shards.now.ok.0, c.requires)
