-- No step changes the numbers of the product.
use Rattle.std.proofs.Common.{◌≡◌, Bool, true, false, List, [], ◌∷◌, inl, inr, Some, None, ap, ◌∙◌}
use Rattle.span.specs.declared.key.Key.{Key}
use Rattle.span.specs.Log.{Value}
use Rattle.fold.specs.declared.step.Step.TheVariants.{Absent, Emptied, Clash, Folded}
use Rattle.arena_core.specs.declared.event.Event.{Event}
use Rattle.arena_core.specs.declared.event.Event.TheVariants.{Put, Get, Set, Free, Later, Settle, End, Begin, Retire, Trim, Adopt, Mark, MarkSome, Step, Close}
use Rattle.arena_core.specs.declared.reply.Reply.{Reply}
use Rattle.arena_core.specs.declared.reply.Reply.TheVariants.{Issued, Found, Replaced, Freed, Sent, Settled, ShardEnded, ShardBegun, Retired, Trimmed, Adopted, Marked, Stepped, NoPairLeft, Closed, NoPlan, Refused}
use Rattle.arena_core.specs.declared.reply.Refusal.TheVariants.{OutOfMemory, PagesSpent, Ended, Running, PlanOpen, TooMany, NothingToAdopt, RingFull, Config}
use Rattle.arena_core.specs.Rings.{with_keys, with_ring_at}
use Rattle.arena_core.specs.State.{CoreState, with_rings}
use Rattle.arena_core.specs.Step.{CoreRun, CoreStep, FreesKey, SetsKey}

-- the numbers of equal cores
limits-same : (old new : CoreState) → new ≡ old → new.limits ≡ old.limits
limits-same old new same = ap (λ (c : CoreState). c.limits) same

limits-SetsKey : (old new : CoreState) (key : Key) (value : Value) (done : Bool) → SetsKey old key value done new → new.limits ≡ old.limits
limits-SetsKey old new key value true (inl sets) = ap (λ (c : CoreState). c.limits) sets.rest
limits-SetsKey old new key value true (inr sets) = ap (λ (c : CoreState). c.limits) sets.rest
limits-SetsKey old new key value false step = limits-same old new step.1

limits-FreesKey : (old new : CoreState) (key : Key) (freed : Bool) → FreesKey old key freed new → new.limits ≡ old.limits
limits-FreesKey old new key true (inl frees) = ap (λ (c : CoreState). c.limits) frees.rest
limits-FreesKey old new key true (inr frees) = ap (λ (c : CoreState). c.limits) frees.rest
limits-FreesKey old new key false step = limits-same old new step.1

pub limits-CoreStep : (old new : CoreState) (event : Event) (reply : Reply) → CoreStep old event reply new → new.limits ≡ old.limits
limits-CoreStep old new (Put shard value) (Issued key) step = ap (λ (c : CoreState). c.limits) step.rest
limits-CoreStep old new (Put shard value) (Refused Config) step = limits-same old new step.1
limits-CoreStep old new (Put shard value) (Refused Ended) step = limits-same old new step.1
limits-CoreStep old new (Put shard value) (Refused PagesSpent) step = limits-same old new step.1
limits-CoreStep old new (Put shard value) (Refused OutOfMemory) step = limits-same old new step.1
limits-CoreStep old new (Get key) (Found value) step = limits-same old new step.1
limits-CoreStep old new (Set key value) (Replaced done) step = limits-SetsKey old new key value done step
limits-CoreStep old new (Set key value) (Refused OutOfMemory) step = limits-same old new step.1
limits-CoreStep old new (Free key) (Freed freed) step = limits-FreesKey old new key freed step
limits-CoreStep old new (Later worker key) Sent step = ap (λ (c : CoreState). c.limits) step.rest
limits-CoreStep old new (Later worker key) (Refused RingFull) step = limits-same old new step.1
limits-CoreStep old new (Later worker key) (Refused OutOfMemory) step = limits-same old new step.1
limits-CoreStep old new (Later worker key) (Refused Config) step = limits-same old new step.1
limits-CoreStep old new (Settle worker shard) (Settled (Some key)) step = limits-FreesKey
    (with_rings old (with_ring_at old.rings worker shard (with_keys step.ring step.left))) new key step.freed step.frees
limits-CoreStep old new (Settle worker shard) (Settled None) step = limits-same old new step.1
limits-CoreStep old new (Settle worker shard) (Refused Config) step = limits-same old new step.1
limits-CoreStep old new (End shard) ShardEnded step = ap (λ (c : CoreState). c.limits) step.rest
limits-CoreStep old new (End shard) (Refused Ended) step = limits-same old new step.1
limits-CoreStep old new (End shard) (Refused PlanOpen) (has, closed, same) = limits-same old new same
limits-CoreStep old new (End shard) (Refused Config) step = limits-same old new step.1
limits-CoreStep old new (End shard) (Refused OutOfMemory) step = limits-same old new step.1
limits-CoreStep old new (Begin shard) ShardBegun step = ap (λ (c : CoreState). c.limits) step.rest
limits-CoreStep old new (Begin shard) (Refused Running) step = limits-same old new step.1
limits-CoreStep old new (Begin shard) (Refused Config) step = limits-same old new step.1
limits-CoreStep old new (Retire shard most) (Retired count) step = ap (λ (c : CoreState). c.limits) step.rest
limits-CoreStep old new (Retire shard most) (Refused Ended) step = limits-same old new step.1
limits-CoreStep old new (Retire shard most) (Refused PlanOpen) (has, closed, same) = limits-same old new same
limits-CoreStep old new (Retire shard most) (Refused Config) step = limits-same old new step.1
limits-CoreStep old new (Retire shard most) (Refused OutOfMemory) step = limits-same old new step.1
limits-CoreStep old new (Trim shard) (Trimmed count) step = ap (λ (c : CoreState). c.limits) step.rest
limits-CoreStep old new (Trim shard) (Refused Config) step = limits-same old new step.1
limits-CoreStep old new (Adopt shard) (Adopted head) step = ap (λ (c : CoreState). c.limits) step.rest
limits-CoreStep old new (Adopt shard) (Refused PagesSpent) step = limits-same old new step.1
limits-CoreStep old new (Adopt shard) (Refused Ended) step = limits-same old new step.1
limits-CoreStep old new (Adopt shard) (Refused PlanOpen) (may, has, same) = limits-same old new same
limits-CoreStep old new (Adopt shard) (Refused NothingToAdopt) (may, no_plan, nothing, same) = limits-same old new same
limits-CoreStep old new (Adopt shard) (Refused Config) (outside, no_plan, some, same) = limits-same old new same
limits-CoreStep old new (Adopt shard) (Refused OutOfMemory) step = limits-same old new step.1
limits-CoreStep old new Mark (Marked certificate) step = ap (λ (c : CoreState). c.limits) step.after
limits-CoreStep old new Mark (Refused PlanOpen) step = limits-same old new step.1
limits-CoreStep old new Mark (Refused TooMany) (no_plan, many, same) = limits-same old new same
limits-CoreStep old new Mark (Refused OutOfMemory) step = limits-same old new step.1
limits-CoreStep old new MarkSome (Marked certificate) step = ap (λ (c : CoreState). c.limits) step.after
limits-CoreStep old new MarkSome (Refused PlanOpen) step = limits-same old new step.1
limits-CoreStep old new MarkSome (Refused OutOfMemory) step = limits-same old new step.1
limits-CoreStep old new Step (Stepped abandoned owned Folded) step = ap (λ (c : CoreState). c.limits) step.rest
limits-CoreStep old new Step (Stepped abandoned owned Emptied) step = ap (λ (c : CoreState). c.limits) step.rest
limits-CoreStep old new Step (Stepped abandoned owned Clash) step = absurd step
limits-CoreStep old new Step (Stepped abandoned owned Absent) step = absurd step
limits-CoreStep old new Step NoPairLeft step = limits-same old new step.1
limits-CoreStep old new Step NoPlan step = limits-same old new step.1
limits-CoreStep old new Step (Refused OutOfMemory) step = limits-same old new step.1
limits-CoreStep old new Close Closed step = ap (λ (c : CoreState). c.limits) step.1
limits-CoreStep old new Close NoPlan step = limits-same old new step.1
limits-CoreStep old new event reply step = absurd step

pub limits-CoreRun : (old new : CoreState) (events : List Event) (replies : List Reply) → CoreRun old events replies new → new.limits ≡ old.limits
limits-CoreRun old new [] [] same = limits-same old new same
limits-CoreRun old new (event ∷ events) (reply ∷ replies) (mid, step, sound, run) = limits-CoreRun mid new events replies run ∙ limits-CoreStep old mid event reply step
limits-CoreRun old new [] (reply ∷ replies) run = absurd run
limits-CoreRun old new (event ∷ events) [] run = absurd run
