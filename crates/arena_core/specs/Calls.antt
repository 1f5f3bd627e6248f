-- What calls return that take one step of the core: what makes the reply to their event, or why the
-- core refuses it.
use Rattle.std.specs.Prelude.{◌≢◌, ℕ, MatchResult, Option, Result}
use Rattle.span.specs.declared.id.SpanId.{SpanId}
use Rattle.span.specs.declared.key.Key.{Key}
use Rattle.shard.specs.Calls.{was_replaced}
use Rattle.shard.specs.declared.shard.replacing.Replaced.{Replaced}
use Rattle.shard.specs.declared.shard.replacing.Replaced.TheVariants.{NotHere}
use Rattle.fold.specs.declared.step.Step.{Step as Outcome}
use Rattle.arena_core.specs.declared.event.Event.{Event}
use Rattle.arena_core.specs.declared.event.Event.TheVariants.{Step}
use Rattle.arena_core.specs.declared.reply.Reply.{Reply}
use Rattle.arena_core.specs.declared.reply.Reply.TheVariants as reply
use Rattle.arena_core.specs.declared.reply.Refusal.{Refusal}
use Rattle.arena_core.specs.declared.reply.Refusal.TheVariants.{OutOfMemory}
use Rattle.arena_core.specs.Plain.{IsOutside, PlainStep}
use Rattle.arena_core.specs.Rings.{IsConfigFor, Takes}
use Rattle.arena_core.specs.State.{CoreState, shown}
use Rattle.arena_core.specs.Step.{CoreStep}

-- from old, the core replies to the event with what was returned, or refuses it for the error, and
-- goes on to new
abbrev pub CoreCall : {T : Type 0} → CoreState → Event → (T → Reply) → Result T Refusal
    → CoreState → Type 0
CoreCall old event reply_of answer new = MatchResult answer
    (λ value. CoreStep old event (reply_of value) new)
    (λ refusal. CoreStep old event (reply.Refused refusal) new)

-- the plain map that old shows may give this reply to the event and go on to what new shows
abbrev pub ShownStep : CoreState → Event → Reply → CoreState → Type 0
ShownStep old event reply new = PlainStep old.limits (shown old) event reply (shown new)

-- the plain map that old shows may reply to the event with what was returned, or refuse it for the
-- error, and go on to the one that new shows
abbrev pub ShownCall : {T : Type 0} → CoreState → Event → (T → Reply) → Result T Refusal
    → CoreState → Type 0
ShownCall old event reply_of answer new = MatchResult answer
    (λ value. ShownStep old event (reply_of value) new)
    (λ refusal. ShownStep old event (reply.Refused refusal) new)

-- the core's reply to a step is this outcome at the pair, or if there is none, that memory was
-- refused
abbrev pub StepCall : {E : Type 0} → CoreState → SpanId → SpanId → Result Outcome E
    → CoreState → Type 0
StepCall old abandoned owned answer new = MatchResult answer
    (λ outcome. CoreStep old Step (reply.Stepped abandoned owned outcome) new)
    (λ _. CoreStep old Step (reply.Refused OutOfMemory) new)

-- if the span of the key that was to be set is here, or if the set is refused, this holds of the
-- reply to it
abbrev pub IfSetHere : (Reply → Type 0) → Result Replaced Refusal → Type 0
IfSetHere P answer = MatchResult answer
    (λ replaced. replaced ≢ NotHere → P (reply.Replaced (was_replaced replaced)))
    (λ refusal. P (reply.Refused refusal))

-- the oldest key leaves the ring from this worker to this shard, if one waits there; or there is no
-- such ring
abbrev pub TakeCall : CoreState → (worker shard : ℕ) → Result (Option Key) Refusal → CoreState
    → Type 0
TakeCall old worker shard answer new = MatchResult answer
    (λ found. Takes old.rings worker shard found new.rings)
    (λ refusal. IsConfigFor refusal (IsOutside old.limits worker shard) old new)
