-- The next pair of the open plan is carried out: it is neither absent nor a clash.
use Rattle.std.proofs.Common.{◌≡◌, ℕ, ◌+◌, length, true, false, inl, inr, refl, sym, ap, subst, ◌∙◌, arith, Some, slice_get, is_some, MatchOption}
use Rattle.std.proofs.lemmas.Option.{none-some}
use Rattle.bitmap.specs.Slots.{AreDisjoint}
use Rattle.bitmap.specs.Operations.{AreDisjoint-at, AreDisjoint-by_slot}
use Rattle.span.specs.declared.id.SpanId.{SpanId}
use Rattle.shard.specs.Group.{GroupState}
use Rattle.groups.specs.Group.{IsHeadOf, occupied, paged_in, spans_of}
use Rattle.groups.specs.Spans.{union_of}
use Rattle.groups.specs.Whole.{WholeState, spans_moved}
use Rattle.shard.specs.Moves.{with_guests}
use Rattle.shard.specs.Sound.{IsSound as IsSoundShard}
use Rattle.shard.specs.State.{ShardState}
use Rattle.shard.proofs.HeadsHere.{same_group}
use Rattle.groups.proofs.Lists.{same_some}
use Rattle.pool.specs.Sound.{IsSound as IsSoundPool}
use Rattle.pool.specs.State.{PoolState, PooledState}
use Rattle.pool.proofs.Adopted.{one_head}
use Rattle.fold.specs.Folds as fold
use Rattle.fold.specs.Folds.{Folds, Steps}
use Rattle.fold.proofs.Sums.{gens-Folds, length_paged-Folds, length_shard_pages-Folds, number-Folds, opened-Folds, page_limit-Folds, slot_limit-Folds, span_limit-Folds, sum_by-Folds}
use Rattle.fold.specs.declared.step.Step.{Step as Outcome}
use Rattle.fold.specs.declared.step.Step.TheVariants.{Absent, Emptied, Clash, Folded}
use Rattle.arena_core.specs.Plan.{IsEmptyInPool, IsNext, IsUnderWay, IsWaiting}
use Rattle.marks.specs.Plans.{with_next_done, OpenPlan}
use Rattle.arena_core.specs.Sound.{IsSound}
use Rattle.arena_core.specs.State.{CoreState, has_span, pages, with_plan, with_pool, with_shard}
use Rattle.arena_core.specs.declared.event.Event.TheVariants.{Step}
use Rattle.arena_core.specs.declared.reply.Reply.TheVariants.{Stepped}
use Rattle.arena_core.proofs.Changes.{HasSoundGroups-moved, HasSoundGroups-retold, sum_all-moved}
use Rattle.arena_core.proofs.Groups.{IsMove}
use Rattle.arena_core.proofs.Lists.{sum_by-set_at}
use Rattle.arena_core.proofs.Logged.{shown-same}
use Rattle.arena_core.proofs.PlanFolds.{AreAllClosedAsPlanned-folded, IsFold, IsUnderWay-folded, IsUnderWay-passed}
use Rattle.arena_core.proofs.PlanSteps.{AreAllClosedAsPlanned, IsSoundStep}
use Rattle.arena_core.proofs.Spans.{shard_with-here}
use Rattle.arena_core.proofs.Steps.{not_doubled_in, with_shard-same, has_span-head, owned-once}
use Rattle.std.proofs.lemmas.Bool.{false_from_ne_true}

-- a fold as a move of spans from the pool to the shard

pub IsMove-Folds : (pool_before pool_after : PoolState) (before after : ShardState) (a b : SpanId) → before.ended ≡ false
    → Folds pool_before before a b pool_after after → IsMove before after pool_before pool_after
IsMove-Folds pool_before pool_after before after a b running folds = record {
  numbers_are = λ i. record {
    number = number-Folds pool_before before a b pool_after after folds i;
    page_limit = page_limit-Folds pool_before before a b pool_after after folds i;
    span_limit = span_limit-Folds pool_before before a b pool_after after folds i;
    slot_limit = slot_limit-Folds pool_before before a b pool_after after folds i;
    gens = gens-Folds pool_before before a b pool_after after folds i;
  };
  opened_is = opened-Folds pool_before before a b pool_after after folds;
  running = running;
  sums = sum_by-Folds pool_before before a b pool_after after folds;
}

IsFold-Folds : (old : CoreState) (pair : SpanId × SpanId) (number : ℕ) (before after : ShardState) (pool : PoolState)
    → slice_get old.shards number ≡ Some before → Folds old.pool before pair.0 pair.1 pool after → IsFold old pair number after pool
IsFold-Folds old pair number before after pool here folds =
    let (index, group, head_of, whole_is, after_is) = folds.lifts in
    record {
      before = before;
      from = index;
      abandoned = group;
      at = folds.grafts.index;
      owned = folds.grafts.group;
      head = folds.whole.head;
      guests = folds.whole.guests;
      page = (with_guests folds.grafts.group (spans_moved folds.whole) folds.grafts.words).page;
      here = here;
      is_abandoned = head_of;
      is_owned = record { here = folds.grafts.here.here; head_is = folds.grafts.here.head_is };
      head_is = ap (λ (m : WholeState). m.head.id) whole_is ∙ head_of.head_is;
      pool_is = ap (λ (p : PoolState). p.groups) after_is;
      shard_is = ap (λ (s : ShardState). s.groups) folds.grafts.after;
    }

-- the next pair
module _ (old : CoreState) (sound : IsSound old) (plan : OpenPlan) (pair : SpanId × SpanId) (next : IsNext old plan pair) where
  pub under_way : IsUnderWay old plan
  under_way = subst (λ p. MatchOption p (Unit {0}) (IsUnderWay old)) next.plan_is sound.plan.under_way

  pub waits : IsWaiting old pair
  waits = under_way.waiting plan.done pair (omega arith) next.pair_is

  module _ (number : ℕ) (before : ShardState) (here : slice_get old.shards number ≡ Some before) (has : has_span pair.1 before ≡ true) where
    -- the shard that has the owned head is that of its group
    same_shard : waits.is_owned.shard ≡ before
    same_shard =
        let there = waits.is_owned in
        let once = owned-once old sound.groups pair.1 in
        same_some (sym (shard_with-here pair.1 old.shards there.number there.shard there.shard_is (has_span-head old sound.groups pair.1 waits.owned there) once)
        ∙ shard_with-here pair.1 old.shards number before here has once)

    owned_here : IsHeadOf before.groups pair.1 waits.is_owned.index waits.owned
    owned_here = subst (λ (s : ShardState). IsHeadOf s.groups pair.1 waits.is_owned.index waits.owned) same_shard waits.is_owned.head_of

    sound_before : IsSoundShard before
    sound_before = (sound.groups.shards number before here).sound

    running : before.ended ≡ false
    running = false_from_ne_true before.ended (λ e. none-some _ (ap (λ gs. slice_get gs waits.is_owned.index) (sym (sound_before.none_left e)) ∙ owned_here.here))

    present : fold.IsAbsent old.pool before pair.0 pair.1 → ⊥
    present (inl none) = none waits.is_abandoned.index waits.abandoned waits.is_abandoned.head_of
    present (inr (inl none)) = none waits.is_owned.index waits.owned owned_here
    present (inr (inr (index, group, head_of, doubled))) = not_doubled_in old sound.groups number before here running index group head_of.here doubled

    no_clash : fold.AreClashing old.pool before pair.0 pair.1 → ⊥
    no_clash (index, place, group, onto, head_a, head_b, clash) =
        let one_a : waits.abandoned ≡ group = one_head old.pool sound.groups.pool waits.is_abandoned.index index waits.abandoned group
        waits.is_abandoned.head_of.here head_a.here (waits.is_abandoned.head_of.head_is ∙ sym head_a.head_is) in
        let one_b : waits.owned ≡ onto = same_group before.groups sound_before.ascending pair.1 waits.is_owned.index place waits.owned onto owned_here head_b in
        elim clash [
          | inl two_classes ↦ two_classes (ap (λ (g : GroupState). g.head.class) (sym one_b) ∙ sym waits.class_is ∙ ap (λ (g : PooledState). g.head.class) one_a)
          | inr joined ↦ joined (subst (λ (g : GroupState). AreDisjoint (occupied g) (union_of (spans_of group))) one_b
              (subst (λ (g : PooledState). AreDisjoint (occupied waits.owned) (union_of (spans_of g))) one_a
              (AreDisjoint-by_slot _ _ (λ q in_b in_a. AreDisjoint-at (union_of (spans_of waits.abandoned)) (occupied waits.owned) waits.apart q in_a in_b))))
        ]

    page_goes : (after : ShardState) (pool : PoolState) → Folds old.pool before pair.0 pair.1 pool after
        → pages (with_plan (with_pool (with_shard old number after) pool) (Some (with_next_done plan))) + 1 ≡ pages old
    page_goes after pool folds = omega (
      arith,
      sum_by-set_at (λ (s : ShardState). length (paged_in s.groups)) old.shards number before after here,
      length_shard_pages-Folds old.pool before pair.0 pair.1 pool after folds sound_before (waits.is_owned.index, waits.owned, owned_here, waits.paged),
      length_paged-Folds old.pool before pair.0 pair.1 pool after folds,
    )

    folded : (after : ShardState) (pool : PoolState) → Folds old.pool before pair.0 pair.1 pool after → pool.has_plan ≡ old.pool.has_plan → IsSoundShard after → IsSoundPool pool
        → IsSoundStep old Step (Stepped pair.0 pair.1 Folded) (with_plan (with_pool (with_shard old number after) pool) (Some (with_next_done plan)))
    folded after pool folds told sound_after sound_pool =
        let new = with_plan (with_pool (with_shard old number after) pool) (Some (with_next_done plan)) in
        let move = IsMove-Folds old.pool pool before after pair.0 pair.1 running folds in
        let groups = HasSoundGroups-moved old sound.groups number before after pool here move sound_after sound_pool in
        let fold = IsFold-Folds old pair number before after pool here folds in
        record {
          kept = record {
            groups = record { within = groups.within; count = groups.count; shards = groups.shards; pool = groups.pool; gens = groups.gens; once = groups.once; forgotten = groups.forgotten };
            plan = record {
              told = told ∙ sound.plan.told ∙ ap is_some next.plan_is;
              closed = AreAllClosedAsPlanned-folded old plan pair number after pool fold under_way next.pair_is (subst (λ p. AreAllClosedAsPlanned p old.shards) next.plan_is sound.plan.closed);
              under_way = IsUnderWay-folded old plan pair number after pool fold under_way next.pair_is;
            };
            rings = sound.rings;
          };
          exact = record { plan = plan; number = number; before = before; after = after; pool = pool; next = next; here = here; folds = folds; rest = refl; page_goes = page_goes after pool folds };
          plain = shown-same old (with_pool (with_shard old number after) pool) sound.groups groups refl (sum_all-moved old sound.groups number before after pool here move);
        }

    both_same : (after : ShardState) (pool : PoolState) → pool ≡ old.pool → after ≡ before → with_pool (with_shard old number after) pool ≡ old
    both_same after pool pool_is shard_is = ap (λ p. with_pool (with_shard old number after) p) pool_is ∙ with_shard-same old number before after here shard_is

    emptied : IsEmptyInPool old pair → IsSoundStep old Step (Stepped pair.0 pair.1 Emptied) (with_plan old (Some (with_next_done plan)))
    emptied empty = record {
      kept = record {
        groups = HasSoundGroups-retold old old.pool.has_plan (Some (with_next_done plan)) old.rings sound.groups;
        plan = record {
          told = sound.plan.told ∙ ap is_some next.plan_is;
          closed = subst (λ p. AreAllClosedAsPlanned p old.shards) next.plan_is sound.plan.closed;
          under_way = IsUnderWay-passed old plan under_way pair next.pair_is empty;
        };
        rings = sound.rings;
      };
      exact = record { plan = plan; next = next; emptied = empty; rest = refl };
      plain = refl;
    }

    -- whatever the fold came to, the step is sound
    pub IsSoundStep-Steps : (step : Outcome) (after : ShardState) (pool : PoolState) → Steps old.pool before pair.0 pair.1 step pool after → IsSoundShard after → IsSoundPool pool
        → IsSoundStep old Step (Stepped pair.0 pair.1 step) (with_plan (with_pool (with_shard old number after) pool) (Some (with_next_done plan)))
    IsSoundStep-Steps Absent after pool steps sound_after sound_pool = absurd (present steps.0)
    IsSoundStep-Steps Emptied after pool ((still, (index, group, head_of, none)), pool_is, shard_is) sound_after sound_pool =
        subst (λ c. IsSoundStep old Step (Stepped pair.0 pair.1 Emptied) (with_plan c (Some (with_next_done plan)))) (sym (both_same after pool pool_is shard_is))
        (emptied (record { abandoned = group; is_abandoned = record { index = index; head_of = head_of }; no_page = none }))
    IsSoundStep-Steps Clash after pool ((still, paged, clash), pool_is, shard_is) sound_after sound_pool = absurd (no_clash clash)
    IsSoundStep-Steps Folded after pool (may, folds) sound_after sound_pool =
        let (index, group, head_of, whole_is, after_is) = folds.lifts in
        folded after pool folds (ap (λ (p : PoolState). p.has_plan) after_is) sound_after sound_pool
