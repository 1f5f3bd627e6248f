-- What a change of one shard, of the pool or of both does to the soundness of the core.
use Rattle.std.proofs.Common.{◌≡◌, ◌≢◌, Bool, List, Option, ℕ, ◌<◌, ◌≤◌, true, false, cond, eqb, ltb, ◌⊎◌, inl, inr, refl, sym, ap, subst, ◌∙◌, arith, Some, slice_get, eq-eqb, suc}
use Rattle.std.proofs.Math.ListN.{length-set}
use Rattle.std.proofs.lemmas.Bool.{cases_eq, ne_eqb}
use Rattle.std.proofs.lemmas.Bool.Decides.{nat_tests}
use Rattle.span.specs.declared.id.SpanId.{SpanId}
use Rattle.span.specs.State.{SpanState}
use Rattle.shard.specs.Sound.{IsSound as IsSoundShard}
use Rattle.shard.specs.State.{ShardState}
use Rattle.pool.specs.Sound.{IsSound as IsSoundPool}
use Rattle.pool.specs.State.{PoolState}
use Rattle.marks.specs.Plans.{OpenPlan}
use Rattle.marks.specs.Seen.{with_plan_told}
use Rattle.arena_core.specs.Rings.{RingState}
use Rattle.arena_core.specs.Sound.{HasSoundGroups, IsSoundAt}
use Rattle.arena_core.specs.State.{CoreState, all_spans, opened_by, opened_of, with_pool, with_shard}
use Rattle.arena_core.proofs.Groups.{IsCall, IsMove, IsPoolCall, IsSoundAt-same, own, same_number, strays, strays-each, strays-none}
use Rattle.arena_core.proofs.Lists.{cond-le_one, each-set, not_below}
use Rattle.marks.proofs.Lists.{slice_get-set_other, slice_get-set_same}
use Rattle.arena_core.proofs.Spans.{named, sum_all, sum_all-with_pool, sum_all-with_shard, sum_in, times}

-- whether a serial is below a number, as a count
abbrev pub indicator : ℕ → ℕ → ℕ
indicator serial opened = cond {A = ℕ} (ltb serial opened) 1 0

pub past-indicator : (serial opened : ℕ) → opened ≤ serial → indicator serial opened ≡ 0
past-indicator serial opened past = grind (arith, nat_tests)

pub at_most_once : (core : CoreState) → HasSoundGroups core → (id : SpanId) → times id core ≤ 1
at_most_once core sound id = subst (λ n. n ≤ 1) (sym (sound.once id)) (cond-le_one _)

-- a span that stands anywhere was opened
pub opened-somewhere : (core : CoreState) → HasSoundGroups core → (id : SpanId) → 1 ≤ times id core → id.serial < opened_by core.shards id.shard
opened-somewhere core sound id some =
    not_below (opened_by core.shards id.shard) (suc id.serial) (λ past. omega (arith, sound.once id, past-indicator id.serial (opened_by core.shards id.shard) (omega arith)))

pub no_strays : (core : CoreState) → HasSoundGroups core → sum_all (strays core.limits.gens) core ≡ 0
no_strays core sound = strays-none core.limits.gens (all_spans core) sound.gens

-- whether the groups are sound does not depend on the plan and the rings
pub HasSoundGroups-retold : (core : CoreState) (told : Bool) (plan : Option OpenPlan) (rings : List (List RingState)) → HasSoundGroups core
    → HasSoundGroups (record core { pool = with_plan_told core.pool told; plan = plan; rings = rings })
HasSoundGroups-retold core told plan rings sound = record {
  within = sound.within;
  count = sound.count;
  shards = sound.shards;
  pool = record { ascending = sound.pool.ascending; groups = sound.pool.groups; in_use = sound.pool.in_use; once = sound.pool.once };
  gens = sound.gens;
  once = sound.once;
  forgotten = sound.forgotten;
}

-- one shard changes

module _ (old : CoreState) (sound : HasSoundGroups old) (number : ℕ) (before after : ShardState) (here : slice_get old.shards number ≡ Some before) (call : IsCall before after) where
  abbrev new : CoreState
  new = with_shard old number after

  abbrev was : IsSoundAt old.limits number before
  was = sound.shards number before here

  own-here : (id : SpanId) → id.shard ≡ number → (own id before ≡ indicator id.serial before.opened) × (own id after ≡ indicator id.serial after.opened)
  own-here id same =
      let shard_is : eqb id.shard before.number ≡ true = eq-eqb id.shard before.number (same ∙ sym was.number_is) in
      let still : eqb id.shard after.number ≡ true = eq-eqb id.shard after.number (same ∙ sym was.number_is ∙ sym (same_number call)) in
      (rw shard_is refl, rw still refl)

  own-other : (id : SpanId) → id.shard ≢ number → (own id before ≡ 0) × (own id after ≡ 0)
  own-other id differ =
      let shard_is : eqb id.shard before.number ≡ false = ne_eqb id.shard before.number (λ e. differ (e ∙ was.number_is)) in
      let still : eqb id.shard after.number ≡ false = ne_eqb id.shard after.number (λ e. differ (e ∙ same_number call ∙ was.number_is)) in
      (rw shard_is refl, rw still refl)

  once_new : (id : SpanId) → (id.shard ≡ number) ⊎ (id.shard ≢ number) → times id new ≡ indicator id.serial (opened_by new.shards id.shard)
  once_new id (inl same) =
      let opened_old : opened_by old.shards id.shard ≡ before.opened = ap (opened_by old.shards) same ∙ ap opened_of here in
      let opened_new : opened_by new.shards id.shard ≡ after.opened = ap (opened_by new.shards) same ∙ ap opened_of (slice_get-set_same old.shards number before after here) in
      let once_old : times id old ≡ indicator id.serial before.opened = sound.once id ∙ ap (indicator id.serial) opened_old in
      let total : times id new ≡ indicator id.serial after.opened = omega (
        arith,
        once_old,
        sum_all-with_shard (named id) old number before after here,
        call.spans id,
        (own-here id same).0,
        (own-here id same).1,
      ) in
      total ∙ ap (indicator id.serial) (sym opened_new)
  once_new id (inr differ) =
      let opened_same : opened_by new.shards id.shard ≡ opened_by old.shards id.shard = ap opened_of (slice_get-set_other old.shards number id.shard after differ) in
      let total : times id new ≡ times id old = omega (arith, sum_all-with_shard (named id) old number before after here, call.spans id, (own-other id differ).0, (own-other id differ).1) in
      total ∙ sound.once id ∙ ap (indicator id.serial) (sym opened_same)

  strays_new : sum_all (strays old.limits.gens) new ≡ 0
  strays_new =
      let same : sum_in (strays old.limits.gens) after ≡ sum_in (strays old.limits.gens) before = subst (λ g. sum_in (strays g) after ≡ sum_in (strays g) before) was.gens_is call.strays_are in
      omega (arith, no_strays old sound, sum_all-with_shard (strays old.limits.gens) old number before after here, same)

  pub HasSoundGroups-with_shard : IsSoundShard after → HasSoundGroups (with_shard old number after)
  HasSoundGroups-with_shard sound_after = record {
    within = sound.within;
    count = length-set old.shards number after ∙ sound.count;
    shards = each-set (IsSoundAt old.limits) old.shards number after
        (IsSoundAt-same old.limits number before after call.numbers_are was sound_after)
        sound.shards;
    pool = sound.pool;
    gens = strays-each old.limits.gens (all_spans new) strays_new;
    once = λ id. once_new id (cases_eq id.shard number);
    forgotten = sound.forgotten;
  }

-- the pool changes

pub HasSoundGroups-with_pool : (old : CoreState) → HasSoundGroups old → (pool : PoolState) → IsPoolCall old.pool pool → IsSoundPool pool → HasSoundGroups (with_pool old pool)
HasSoundGroups-with_pool old sound pool call sound_pool = record {
  within = sound.within;
  count = sound.count;
  shards = sound.shards;
  pool = sound_pool;
  gens = strays-each old.limits.gens (all_spans (with_pool old pool))
      (omega (arith, no_strays old sound, sum_all-with_pool (strays old.limits.gens) old pool, call.strays_are old.limits.gens));
  once = λ id.
      let same : times id (with_pool old pool) ≡ times id old = omega (arith, sum_all-with_pool (named id) old pool, call.spans id) in
      same ∙ sound.once id;
  forgotten = sound.forgotten;
}

-- spans move between a shard and the pool

module _ (old : CoreState) (sound : HasSoundGroups old) (number : ℕ) (before after : ShardState) (pool : PoolState)
    (here : slice_get old.shards number ≡ Some before) (move : IsMove before after old.pool pool) where
  abbrev moved : CoreState
  moved = with_pool (with_shard old number after) pool

  -- no span comes or goes
  pub sum_all-moved : (w : SpanState → ℕ) → sum_all w (with_pool (with_shard old number after) pool) ≡ sum_all w old
  sum_all-moved w = omega (arith, sum_all-with_shard w old number before after here, sum_all-with_pool w (with_shard old number after) pool, move.sums w)

  opened_still : (id : SpanId) → (id.shard ≡ number) ⊎ (id.shard ≢ number) → opened_by moved.shards id.shard ≡ opened_by old.shards id.shard
  opened_still id (inl same) =
      ap (opened_by moved.shards) same ∙ ap opened_of (slice_get-set_same old.shards number before after here) ∙ move.opened_is
      ∙ sym (ap opened_of here) ∙ sym (ap (opened_by old.shards) same)
  opened_still id (inr differ) = ap opened_of (slice_get-set_other old.shards number id.shard after differ)

  once_still : (id : SpanId) → times id moved ≡ indicator id.serial (opened_by moved.shards id.shard)
  once_still id = sum_all-moved (named id) ∙ sound.once id ∙ ap (indicator id.serial) (sym (opened_still id (cases_eq id.shard number)))

  pub HasSoundGroups-moved : IsSoundShard after → IsSoundPool pool → HasSoundGroups (with_pool (with_shard old number after) pool)
  HasSoundGroups-moved sound_after sound_pool = record {
    within = sound.within;
    count = length-set old.shards number after ∙ sound.count;
    shards = each-set (IsSoundAt old.limits) old.shards number after
        (IsSoundAt-same old.limits number before after move.numbers_are (sound.shards number before here) sound_after)
        sound.shards;
    pool = sound_pool;
    gens = strays-each old.limits.gens (all_spans moved) (sum_all-moved (strays old.limits.gens) ∙ no_strays old sound);
    once = once_still;
    forgotten = sound.forgotten;
  }
