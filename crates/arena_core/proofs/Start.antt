-- A core begins sound, and shows the empty map.
use Rattle.std.proofs.Common.{◌≡◌, ℕ, zero, suc, ◌+◌, ◌<◌, List, [], ◌∷◌, refl, false, sym, ap, subst, ◌∙◌, arith, Option, None, Some, map, slice_get, append-nil, sum_by}
use Rattle.std.specs.List.{range_with_len}
use Rattle.std.proofs.lemmas.List.FromFn.{length-map-range_with_len}
use Rattle.std.proofs.lemmas.Option.{none-some}
use Rattle.span.specs.declared.id.SpanId.{SpanId}
use Rattle.span.specs.PlainMap.{empty_map}
use Rattle.span.specs.State.{SpanState}
use Rattle.shard.specs.Group.{GroupState}
use Rattle.shard.specs.State.{ShardState}
use Rattle.groups.proofs.Logged.{same_plain_map}
use Rattle.pool.specs.State.{PoolState, new_pool}
use Rattle.pool.proofs.Started.{IsSound-none}
use Rattle.arena_core.specs.Made.{all_shards, new_shard_of}
use Rattle.arena_core.specs.Rings.{RingState}
use Rattle.arena_core.specs.Sound.{HasSoundGroups, IsSound, IsSoundAt}
use Rattle.marks.specs.Numbers.{AreWithin, Limits}
use Rattle.arena_core.specs.State.{all_spans, new_core, new_shard, opened_by, shard_spans, shard_with, shown, shown_at}
use Rattle.marks.specs.Plans.{OpenPlan}
use Rattle.arena_core.proofs.Changes.{indicator, past-indicator}
use Rattle.arena_core.proofs.Groups.{strays, strays-each}
use Rattle.arena_core.proofs.Made.{IsSound-new_shard, completed-empty, completed-new}
use Rattle.arena_core.proofs.RingsKept.{AreRings-new, pending_at-new}
use Rattle.arena_core.proofs.Spans.{named, shard_with-nowhere, sum_all}
use Rattle.arena_core.proofs.Fields.{core_of}

sum-new : (w : SpanState → ℕ) (limits : Limits) (numbers : List ℕ) → sum_by w (shard_spans (map (new_shard limits.page_limit limits.span_limit limits.slot_limit limits.gens) numbers)) ≡ 0
sum-new w limits [] = refl
sum-new w limits (number ∷ numbers) = sum-new w limits numbers

sum_all-new : (w : SpanState → ℕ) (limits : Limits) → sum_all w (new_core limits) ≡ 0
sum_all-new w limits = ap (sum_by w) (append-nil (shard_spans (new_core limits).shards)) ∙ sum-new w limits (range_with_len 0 limits.shards)

opened_by-new : (limits : Limits) (numbers : List ℕ) (number : ℕ) → opened_by (map (new_shard limits.page_limit limits.span_limit limits.slot_limit limits.gens) numbers) number ≡ 0
opened_by-new limits [] number = refl
opened_by-new limits (first ∷ numbers) zero = refl
opened_by-new limits (first ∷ numbers) (suc number) = opened_by-new limits numbers number

pub slice_get-range : (limits : Limits) (from count number : ℕ) (shard : ShardState)
    → slice_get (map (new_shard limits.page_limit limits.span_limit limits.slot_limit limits.gens) (range_with_len from count)) number ≡ Some shard
    → (number < count) × (new_shard limits.page_limit limits.span_limit limits.slot_limit limits.gens (from + number) ≡ shard)
slice_get-range limits from count number shard here =
    completed-new from count (new_shard limits.page_limit limits.span_limit limits.slot_limit limits.gens) [] number shard (omega arith)
    (ap (λ xs. slice_get xs number) (completed-empty from count (new_shard limits.page_limit limits.span_limit limits.slot_limit limits.gens)) ∙ here)

pub HasSoundGroups-new_core : (limits : Limits) → AreWithin limits → HasSoundGroups (new_core limits)
HasSoundGroups-new_core limits within = record {
  within = within;
  count = length-map-range_with_len (new_shard limits.page_limit limits.span_limit limits.slot_limit limits.gens) 0 limits.shards;
  shards = λ number shard here.
      let at : (number < limits.shards) × (new_shard limits.page_limit limits.span_limit limits.slot_limit limits.gens (0 + number) ≡ shard) = slice_get-range limits 0 limits.shards number shard here in
      let same : 0 + number ≡ number = omega arith in
      subst (IsSoundAt limits number) (ap (new_shard limits.page_limit limits.span_limit limits.slot_limit limits.gens) (sym same) ∙ at.1)
      (record { number_is = refl; page_limit_is = refl; span_limit_is = refl; slot_limit_is = refl; gens_is = refl; sound = IsSound-new_shard limits number within });
  pool = IsSound-none false;
  gens = strays-each limits.gens (all_spans (new_core limits)) (sum_all-new (strays limits.gens) limits);
  once = λ id.
      sum_all-new (named id) limits
      ∙ sym (ap (indicator id.serial) (opened_by-new limits (range_with_len 0 limits.shards) id.shard) ∙ past-indicator id.serial 0 (omega arith));
  forgotten = λ place span here. absurd (none-some span here);
}

pub shown-new_core : (limits : Limits) → shown (new_core limits) ≡ empty_map
shown-new_core limits =
    same_plain_map _ _ (λ key. ap (λ o. (shown_at new_pool o).is_issued key) (nowhere key.span))
    (λ key. ap (λ o. (shown_at new_pool o).value_of key) (nowhere key.span))
    (λ worker shard. pending_at-new limits.shards limits.ring_capacity worker shard)
  where
    nowhere : (id : SpanId) → shard_with (new_core limits).shards id ≡ None
    nowhere id = shard_with-nowhere id (new_core limits).shards (sum-new (named id) limits (range_with_len 0 limits.shards))

-- the fields of a new core show as the new core
pub new_core-fields : (limits : Limits) (made : List ShardState) (pool : PoolState) (plan : Option OpenPlan) (rings : List (List RingState)) (gone : List SpanState)
    → made ≡ [] → pool ≡ new_pool → plan ≡ None → rings ≡ (new_core limits).rings → gone ≡ []
    → core_of limits (all_shards limits made) pool plan rings gone ≡ new_core limits
new_core-fields limits made pool plan rings gone none_made empty no_plan rings_are none_gone =
    let shards : all_shards limits made ≡ (new_core limits).shards = ap (all_shards limits) none_made ∙ completed-empty 0 limits.shards (new_shard_of limits) in
    λ i. core_of limits (shards i) (empty i) (no_plan i) (rings_are i) (none_gone i)

-- a core begins with no plan
pub IsSound-new_core : (limits : Limits) → HasSoundGroups (new_core limits) → IsSound (new_core limits)
IsSound-new_core limits groups = record {
  groups = groups;
  plan = record {
    told = refl;
    closed = λ number shard here index group at. absurd (no_group number shard here index group at);
    under_way = tt;
  };
  rings = AreRings-new limits;
}
  where
    no_group : (number : ℕ) (shard : ShardState) → slice_get (new_core limits).shards number ≡ Some shard → (index : ℕ) (group : GroupState) → slice_get shard.groups index ≡ Some group → ⊥
    no_group number shard here index group at =
        let is = slice_get-range limits 0 limits.shards number shard here in
        none-some _ (ap (λ (s : ShardState). slice_get s.groups index) is.1 ∙ at)
