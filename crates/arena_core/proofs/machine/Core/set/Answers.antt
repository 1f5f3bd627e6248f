use Rattle.std.proofs.Common.{◌≡◌, ◌≢◌, ◌∙◌, Bool, ℕ, Err, IfOk, MatchResult, Ok, OnErr, Result, cond, refl, subst, true}
use Rattle.span.specs.Log.{Value}
use Rattle.span.specs.PlainMap.{may_set, with_value}
use Rattle.span.specs.declared.key.Key.{Key}
use Rattle.shard.specs.Calls.{Sets, was_replaced}
use Rattle.shard.specs.Shown.{shown as shown_by}
use Rattle.shard.specs.Sound.{IsSound as IsSoundShard}
use Rattle.shard.specs.State.{ShardState}
use Rattle.shard.specs.declared.shard.replacing.Replaced.{Replaced as Answer}
use Rattle.shard.specs.declared.shard.replacing.Replaced.TheVariants.{NotHere}
use Rattle.arena_core.specs.declared.event.Event.TheVariants.{Set}
use Rattle.arena_core.specs.declared.machine.Core.TheInside.{Inside}
use Rattle.arena_core.specs.declared.reply.Refusal.{Refusal}
use Rattle.arena_core.specs.declared.reply.Refusal.TheVariants.{OutOfMemory}
use Rattle.arena_core.specs.declared.reply.Reply.TheVariants.{Replaced}
use Rattle.arena_core.specs.Calls.{CoreCall, ShownCall}
use Rattle.arena_core.specs.Kept.{IsKept, state_of}
use Rattle.arena_core.specs.Sound.{IsSound}
use Rattle.arena_core.specs.State.{CoreState}
use Rattle.arena_core.proofs.FieldSteps.{IsStep-set_home, IsStep-set_refused_home, state_of-same}
use Rattle.arena_core.proofs.Fields.{IsRead, with_shard_at}
use Rattle.arena_core.proofs.FieldsKept.{IsKept-same, IsKept-set}
use Rattle.arena_core.proofs.machine.Core.set.Goals as goal

-- a step with what was answered
record IsReply (old : CoreState) (key : Key) (value : Value) (new : CoreState) (reply : Result Bool Refusal) : Type 0 where
  pub exact : CoreCall old (Set key value) Replaced reply new
  pub plain : ShownCall old (Set key value) Replaced reply new
  pub kept : IsSound new

-- what the shard answers to the set, or refuses
module _ {L E : Type 0} (c : Inside L) (kept : IsKept c) (number : ℕ) (key : Key) (value : Value) (before after : ShardState) (read : IsRead c number before) where
  kept_set : (result : Result Answer E) → IfOk result (λ answer. Sets before key value answer after) → IfOk result (λ answer. was_replaced answer ≡ may_set (shown_by before) key value)
      → IfOk result (λ answer. shown_by after ≡ cond (was_replaced answer) (with_value (shown_by before) key value) (shown_by before)) → IsSoundShard after
      → OnErr result (after ≡ before) → IsKept (with_shard_at c number after)
  kept_set (Ok answer) sets found plain sound same = IsKept-set c kept number before read key value answer after sets found plain sound
  kept_set (Err error) sets found plain sound same = IsKept-same c kept number before read after same

  step_set : (now : CoreState) → state_of c ≡ now → (result : Result Answer E) (reply : Result Bool Refusal)
      → MatchResult result (λ answer. reply ≡ Ok (was_replaced answer)) (λ error. reply ≡ Err OutOfMemory)
      → IfOk result (λ answer. answer ≢ NotHere) → IfOk result (λ answer. Sets before key value answer after) → IfOk result (λ answer. was_replaced answer ≡ may_set (shown_by before) key value)
      → IfOk result (λ answer. shown_by after ≡ cond (was_replaced answer) (with_value (shown_by before) key value) (shown_by before)) → IsSoundShard after
      → OnErr result (may_set (shown_by before) key value ≡ true) → OnErr result (after ≡ before) → IsReply now key value (state_of (with_shard_at c number after)) reply
  step_set now is (Ok answer) reply told here sets found plain sound may same =
      let step = IsStep-set_home c now number key value before after answer is kept.sound read here sets found plain sound in
      rw told (record { exact = step.exact; plain = step.plain; kept = step.kept })
  step_set now is (Err error) reply told here sets found plain sound may same =
      let step = IsStep-set_refused_home c now number key value before after is kept.sound read may same in
      rw told (record { exact = step.exact; plain = step.plain; kept = step.kept })

pub invariant_of-self-2 : goal.invariant_of-self-2
invariant_of-self-2 g c =
    let first = c.set_first.ensures in
    kept_set c.self.inside c.self.invariant c.args.key.now.span.shard c.args.key.now c.args.words.now c.in-Some.shard.now c.set_first.new.self
    (record { within = c.in-Some.ensures.variant.0 refl; value = c.in-Some.ensures.value })
    c.set_first.result first.step first.found first.plain first.sound first.err

replied : (g : _) (c : goal.After-set_reply g)
    → IsReply c.args.self.now c.args.key.now c.args.words.now (state_of (with_shard_at c.self.inside c.args.key.now.span.shard c.set_first.new.self)) c.set_reply.result
replied g c =
    let first = c.set_first.ensures in
    step_set c.self.inside c.self.invariant c.args.key.now.span.shard c.args.key.now c.args.words.now c.in-Some.shard.now c.set_first.new.self
    (record { within = c.in-Some.ensures.variant.0 refl; value = c.in-Some.ensures.value }) c.args.self.now c.self.view_is
    c.set_first.result c.set_reply.result c.set_reply.ensures first.here first.step first.found first.plain first.sound first.refused first.err

pub returns-clause-exact : goal.returns-clause-exact
returns-clause-exact g c = (replied g c).exact

pub returns-clause-plain : goal.returns-clause-plain
returns-clause-plain g c = (replied g c).plain

pub returns-clause-sound : goal.returns-clause-sound
returns-clause-sound g c = (replied g c).kept

pub set_first-requires : goal.set_first-requires
set_first-requires g c = c.in-Some-first_index.ensures.place

-- there is no such shard

pub returns-in_default-clause-exact : goal.returns-in_default-clause-exact
returns-in_default-clause-exact g c = subst (λ old. CoreCall old (Set c.args.key.now c.args.words.now) Replaced c.set_parts.result c.set_parts.new.self) c.self.view_is
    (c.set_parts.ensures.exact c.args.key.now (refl, refl, refl))

pub returns-in_default-clause-plain : goal.returns-in_default-clause-plain
returns-in_default-clause-plain g c = subst (λ old. ShownCall old (Set c.args.key.now c.args.words.now) Replaced c.set_parts.result c.set_parts.new.self) c.self.view_is
    (c.set_parts.ensures.plain c.args.key.now (refl, refl, refl))

pub set_parts-requires : goal.set_parts-requires
set_parts-requires g c = c.args.key.now.generation_in_range

-- the span is not noted as a head, and the shard is as it was

pub invariant_of-self-in_default-first_index : goal.invariant_of-self-in_default-first_index
invariant_of-self-in_default-first_index g c =
    IsKept-same c.self.inside c.self.invariant c.args.key.now.span.shard c.in-Some.shard.now (record { within = c.in-Some.ensures.variant.0 refl; value = c.in-Some.ensures.value }) _ refl

pub returns-in_default-first_index-clause-exact : goal.returns-in_default-first_index-clause-exact
returns-in_default-first_index-clause-exact g c = subst (λ old. CoreCall old (Set c.args.key.now c.args.words.now) Replaced c.set_parts-in_default-first_index.result c.set_parts-in_default-first_index.new.self)
    (state_of-same c.self.inside c.args.key.now.span.shard c.in-Some.shard.now _ (record { within = c.in-Some.ensures.variant.0 refl; value = c.in-Some.ensures.value }) refl ∙ c.self.view_is)
    (c.set_parts-in_default-first_index.ensures.exact c.args.key.now (refl, refl, refl))

pub returns-in_default-first_index-clause-plain : goal.returns-in_default-first_index-clause-plain
returns-in_default-first_index-clause-plain g c = subst (λ old. ShownCall old (Set c.args.key.now c.args.words.now) Replaced c.set_parts-in_default-first_index.result c.set_parts-in_default-first_index.new.self)
    (state_of-same c.self.inside c.args.key.now.span.shard c.in-Some.shard.now _ (record { within = c.in-Some.ensures.variant.0 refl; value = c.in-Some.ensures.value }) refl ∙ c.self.view_is)
    (c.set_parts-in_default-first_index.ensures.plain c.args.key.now (refl, refl, refl))
