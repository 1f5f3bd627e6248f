-- Why the core refuses an event, by why its shard or its pool does.
use Rattle.std.specs.Prelude.{Option, Some, None}
use Rattle.shard.specs.declared.error.PutError.{PutError}
use Rattle.shard.specs.declared.error.PutError.TheVariants as shard
use Rattle.pool.specs.declared.error.AdoptError.{AdoptError}
use Rattle.pool.specs.declared.error.AdoptError.TheVariants as adopt
use Rattle.pool.specs.declared.error.ReceiveError.{ReceiveError}
use Rattle.pool.specs.declared.error.ReceiveError.TheVariants as receive
use Rattle.marks.specs.declared.error.MarkError.{MarkError}
use Rattle.marks.specs.declared.error.MarkError.TheVariants as mark
use Rattle.arena_core.specs.declared.reply.Refusal.{Refusal}
use Rattle.arena_core.specs.declared.reply.Refusal.TheVariants.{OutOfMemory, PagesSpent, Ended, PlanOpen, TooMany, NothingToAdopt}

-- the core gives the shard's cause
abbrev pub refusal_of : PutError → Refusal
refusal_of shard.OutOfMemory = OutOfMemory
refusal_of shard.PagesSpent = PagesSpent
refusal_of shard.Ended = Ended

-- the core gives the pool's cause, save that no span stands twice
abbrev pub refusal_of_end : ReceiveError → Option Refusal
refusal_of_end receive.OutOfMemory = Some OutOfMemory
refusal_of_end receive.Ended = Some Ended
refusal_of_end receive.Doubled = None
refusal_of_end receive.PlanOpen = Some PlanOpen

-- the core gives the pool's cause, save that no span stands twice
abbrev pub refusal_of_adoption : AdoptError → Option Refusal
refusal_of_adoption adopt.OutOfMemory = Some OutOfMemory
refusal_of_adoption adopt.PagesSpent = Some PagesSpent
refusal_of_adoption adopt.Ended = Some Ended
refusal_of_adoption adopt.Doubled = None
refusal_of_adoption adopt.PlanOpen = Some PlanOpen
refusal_of_adoption adopt.NothingToAdopt = Some NothingToAdopt

-- the core gives the mark's cause, save that no span stands twice
abbrev pub refusal_of_mark : MarkError → Option Refusal
refusal_of_mark mark.OutOfMemory = Some OutOfMemory
refusal_of_mark mark.Doubled = None
refusal_of_mark mark.PlanOpen = Some PlanOpen
refusal_of_mark mark.TooMany = Some TooMany
