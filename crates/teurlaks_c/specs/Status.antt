-- The numbers that calls answer.
use Rattle.std.specs.Prelude.{ℕ}
use Rattle.arena_core.specs.declared.reply.Refusal.{Refusal}
use Rattle.arena_core.specs.declared.reply.Refusal.TheVariants.{OutOfMemory, PagesSpent, Ended, Running, PlanOpen, TooMany, NothingToAdopt, RingFull, Config}
use Rattle.shard.specs.declared.error.PutError.{PutError}
use Rattle.shard.specs.declared.error.PutError.TheVariants as put_error
use Rattle.pool.specs.declared.error.ReceiveError.{ReceiveError}
use Rattle.pool.specs.declared.error.ReceiveError.TheVariants as receive_error
use Rattle.pool.specs.declared.error.AdoptError.{AdoptError}
use Rattle.pool.specs.declared.error.AdoptError.TheVariants as adopt_error
use Rattle.marks.specs.declared.error.MarkError.{MarkError}
use Rattle.marks.specs.declared.error.MarkError.TheVariants as mark_error
use Rattle.fold.specs.declared.step.Step.{Step as Outcome}
use Rattle.fold.specs.declared.step.Step.TheVariants as outcome
use Rattle.audit.specs.declared.fault.AuditCause.{AuditCause}
use Rattle.audit.specs.declared.fault.AuditCause.TheVariants as cause

-- done, or found
abbrev pub done : ℕ
done = 0

-- no such key is live, or no certificate is kept
abbrev pub none : ℕ
none = 1

abbrev pub out_of_memory : ℕ
out_of_memory = 2

abbrev pub config : ℕ
config = 8

-- the pair's abandoned group was empty
abbrev pub emptied : ℕ
emptied = 9

abbrev pub no_pair_left : ℕ
no_pair_left = 10

abbrev pub no_plan : ℕ
no_plan = 11

-- there is no room for the text
abbrev pub too_small : ℕ
too_small = 12

-- the handle has no core
abbrev pub no_core : ℕ
no_core = 14

-- the handle that a new core is for has one
abbrev pub has_core : ℕ
has_core = 15

-- the shard that is to begin again has not ended
abbrev pub still_running : ℕ
still_running = 17

-- the run is recorded, so that nothing is forgotten
abbrev pub recorded : ℕ
recorded = 18

-- a seat is not back
abbrev pub unfinished : ℕ
unfinished = 19

-- the status that stands for the refusal
abbrev pub refusal_status : Refusal → ℕ
refusal_status OutOfMemory = 2
refusal_status PagesSpent = 3
refusal_status Ended = 4
refusal_status Running = 17
refusal_status PlanOpen = 5
refusal_status TooMany = 6
refusal_status NothingToAdopt = 7
refusal_status RingFull = 13
refusal_status Config = 8

-- another thread has a lock that the call needs, and nothing has changed
abbrev pub busy : ℕ
busy = 16

abbrev pub ring_full : ℕ
ring_full = 13

-- the status that stands for a refused put
abbrev pub put_status : PutError → ℕ
put_status put_error.OutOfMemory = 2
put_status put_error.PagesSpent = 3
put_status put_error.Ended = 4

-- for a refused end or retirement; two shards never have one span, so that nothing is ever doubled
abbrev pub receive_status : ReceiveError → ℕ
receive_status receive_error.OutOfMemory = 2
receive_status receive_error.Ended = 4
receive_status receive_error.PlanOpen = 5
receive_status receive_error.Doubled = 1

-- for a refused adoption
abbrev pub adopt_status : AdoptError → ℕ
adopt_status adopt_error.OutOfMemory = 2
adopt_status adopt_error.PagesSpent = 3
adopt_status adopt_error.Ended = 4
adopt_status adopt_error.PlanOpen = 5
adopt_status adopt_error.NothingToAdopt = 7
adopt_status adopt_error.Doubled = 1

-- for a refused mark
abbrev pub mark_status : MarkError → ℕ
mark_status mark_error.OutOfMemory = 2
mark_status mark_error.PlanOpen = 5
mark_status mark_error.TooMany = 6
mark_status mark_error.Doubled = 1

-- for what came of a planned pair; the pair's groups are where they were planned, so that neither
-- is absent or clashes
abbrev pub status_of_outcome : Outcome → ℕ
status_of_outcome outcome.Folded = 0
status_of_outcome outcome.Emptied = 9
status_of_outcome outcome.Absent = 1
status_of_outcome outcome.Clash = 1

-- for the part of the agreement that fails first
abbrev pub cause_status : AuditCause → ℕ
cause_status cause.Log = 20
cause_status cause.Change = 21
cause_status cause.Reply = 22
cause_status cause.Order = 23
cause_status cause.Barrier = 24
