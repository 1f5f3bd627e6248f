-- One step of a compaction, and all of them so far.
use Rattle.std.proofs.Common.{◌≡◌, ℕ, ◌+◌, inl, refl, suc}
use Rattle.arena_core.specs.declared.event.Event.{Event}
use Rattle.arena_core.specs.declared.event.Event.TheVariants.{Trim}
use Rattle.arena_core.specs.declared.reply.Reply.{Reply}
use Rattle.arena_core.specs.declared.reply.Reply.TheVariants.{Refused}
use Rattle.arena_core.specs.declared.reply.Refusal.TheVariants.{OutOfMemory, PlanOpen}
use Rattle.arena_core.specs.declared.reply.Refusal.{Refusal}
use Rattle.arena_core.specs.State.{CoreState}
use Rattle.arena_core.specs.Step.{CoreStep}
use Rattle.compaction.specs.Compacts.{Going, MayCome, Takes, TakesAll, cost, noted}
use Rattle.compaction.specs.Told.{standing_of, told}
use Rattle.compaction.specs.declared.advanced.Advanced.{Advanced}
use Rattle.compaction.specs.declared.advanced.Advanced.TheVariants as advanced
use Rattle.compaction.specs.declared.compacted.Standing.TheVariants.{GoesOn}

pub Takes-event : (taken : ℕ) (tells : Advanced) (old new : Going) (event : Event) (reply : Reply) → MayCome event old.progress → cost event ≡ taken → tells ≡ told reply
    → CoreStep old.core event reply new.core → new.progress ≡ noted event reply old.progress → Takes taken tells old new
Takes-event taken tells old new event reply may_come cost_is tells_is exact notes = inl (record { event = event; reply = reply; may_come = may_come; cost_is = cost_is; tells_is = tells_is; exact = exact; notes = notes })

pub TakesAll-next : (steps before last : ℕ) (tells : Advanced) (old mid new : Going) → TakesAll steps before old mid → Takes last tells mid new → standing_of tells ≡ GoesOn → TakesAll (suc steps) (before + last) old new
TakesAll-next steps before last tells old mid new takes step goes_on = (mid, before, last, tells, takes, step, goes_on, refl)

-- a trim is refused only if there is no such shard
pub went-trim : (old new : CoreState) (shard : ℕ) (refusal : Refusal) → CoreStep old (Trim shard) (Refused refusal) new → advanced.Went ≡ told (Refused refusal)
went-trim old new shard OutOfMemory step = absurd step
went-trim old new shard PlanOpen step = absurd step
went-trim old new shard refusal step = refl
