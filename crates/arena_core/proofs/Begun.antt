-- A begin of a shard leaves its groups as they were, and what of it stands in the core.
use Rattle.std.proofs.Common.{◌≡◌, ◌∙◌, ℕ, true, false, Some, slice_get, ap, refl, subst, sym, arith}
use Rattle.shard.specs.Sound.{IsSound as IsSoundShard}
use Rattle.shard.specs.State.{ShardState, begun}
use Rattle.arena_core.specs.Kept.{IsKept, state_of}
use Rattle.arena_core.specs.Sound.{IsSound}
use Rattle.arena_core.specs.State.{CoreState, has_span, with_shard}
use Rattle.arena_core.specs.declared.event.Event.TheVariants.{Begin}
use Rattle.arena_core.specs.declared.machine.Core.TheInside.{Inside}
use Rattle.arena_core.specs.declared.reply.Refusal.TheVariants.{Running}
use Rattle.arena_core.specs.declared.reply.Reply.TheVariants.{Refused, ShardBegun}
use Rattle.arena_core.proofs.Changes.{HasSoundGroups-with_shard, at_most_once}
use Rattle.arena_core.proofs.FieldSteps.{state_of-same, at_same}
use Rattle.arena_core.proofs.Fields.{IsRead, shard-read, state_of-with_shard_at, with_shard_at}
use Rattle.arena_core.proofs.FieldsKept.{IsKept-with_shard_at}
use Rattle.arena_core.proofs.Groups.{IsCall}
use Rattle.arena_core.proofs.PlanKept.{KeepsAllClosed-set, KeepsClosed-same, KeepsPooled-same}
use Rattle.arena_core.proofs.PlanSteps.{AreAllClosedAsPlanned-set, HasSoundPlan-kept, IsSoundStep}
use Rattle.arena_core.proofs.Shown.{IsLocal-shard, shown-unchanged}
use Rattle.shard.specs.Shown.{shown as shown_by}

IsCall-begun : (shard : ShardState) → IsCall shard (begun shard)
IsCall-begun shard = record {
  numbers_are = refl;
  opened_more = omega arith;
  spans = λ id. refl;
  strays_are = refl;
  none_lost = λ id. omega arith;
}

-- a shard that runs is as it was
begun-running : (shard : ShardState) → shard.ended ≡ false → begun shard ≡ shard
begun-running shard running = λ i. record shard { ended = sym running i }

-- the step, whatever plan is open
IsSoundStep-begun : (old : CoreState) (number : ℕ) (before : ShardState) → IsSound old → slice_get old.shards number ≡ Some before → before.ended ≡ true → IsSoundShard (begun before)
    → IsSoundStep old (Begin number) ShardBegun (with_shard old number (begun before))
IsSoundStep-begun old number before sound here ended sound_after =
    let after = begun before in
    let new = with_shard old number after in
    let groups = HasSoundGroups-with_shard old sound.groups number before after here (IsCall-begun before) sound_after in
    let local = IsLocal-shard old new (at_most_once old sound.groups) (at_most_once new groups) number before after here refl in
    record {
      kept = record {
        groups = groups;
        plan = HasSoundPlan-kept old new sound.plan refl refl (KeepsPooled-same old.pool.groups) (KeepsAllClosed-set old.shards number before after here (KeepsClosed-same before.groups))
            (AreAllClosedAsPlanned-set old.plan old.shards number after sound.plan.closed (sound.plan.closed number before here));
        rings = sound.rings;
      };
      exact = record { before = before; here = here; ended = ended; rest = refl };
      plain = shown-unchanged old new (shown_by before) (shown_by after) (λ id. has_span id after) local refl;
    }

module _ {L : Type 0} (c : Inside L) (kept : IsKept c) (number : ℕ) (before after : ShardState) (read : IsRead c number before) (after_is : after ≡ begun before) where
  pub IsSoundStep-begin_fields : before.ended ≡ true → IsSoundShard after → IsSoundStep (state_of c) (Begin number) ShardBegun (state_of (with_shard_at c number after))
  IsSoundStep-begin_fields ended sound_after =
      at_same (λ old new. IsSoundStep old (Begin number) ShardBegun new) refl (state_of-with_shard_at c number before after read ∙ ap (with_shard (state_of c) number) after_is)
      (IsSoundStep-begun (state_of c) number before kept.sound (shard-read c number before read) ended (subst IsSoundShard after_is sound_after))

  pub IsSoundStep-begin_refused_fields : before.ended ≡ false → IsSoundStep (state_of c) (Begin number) (Refused Running) (state_of (with_shard_at c number after))
  IsSoundStep-begin_refused_fields running =
      let same : after ≡ before = subst (λ s. after ≡ s) (begun-running before running) after_is in
      subst (IsSoundStep (state_of c) (Begin number) (Refused Running)) (sym (state_of-same c number before after read same))
      (record { kept = kept.sound; exact = ((before, record { here = shard-read c number before read; running = running }), refl); plain = refl })

  pub IsKept-begin_fields : IsSound (state_of (with_shard_at c number after)) → IsKept (with_shard_at c number after)
  IsKept-begin_fields sound = IsKept-with_shard_at c kept number before read after (λ id foreign has. ap (has_span id) (sym after_is) ∙ has) sound
