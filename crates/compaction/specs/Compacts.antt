-- What a compaction does to a core: which steps it takes, and where it leaves the core.
use Rattle.std.specs.Prelude.{zero, suc, ◌≡◌, ◌⊎◌, ℕ, ◌+◌, ◌*◌, ◌-◌, ◌^◌, ◌<◌, ◌≤◌, min, max, nat_lt, length, Bool, true, false, None}
use Rattle.arena_core.specs.declared.event.Event.{Event}
use Rattle.arena_core.specs.declared.event.Event.TheVariants.{Retire, Trim, Adopt, MarkSome, Step, Close}
use Rattle.arena_core.specs.declared.reply.Reply.{Reply}
use Rattle.arena_core.specs.declared.reply.Reply.TheVariants.{Marked, Trimmed, NoPairLeft, NoPlan, Refused as IsRefused}
use Rattle.arena_core.specs.declared.reply.Refusal.TheVariants.{OutOfMemory, PlanOpen}
use Rattle.arena_core.specs.Forgets.{Forgets}
use Rattle.arena_core.specs.Sound.{IsSound}
use Rattle.arena_core.specs.State.{CoreState}
use Rattle.arena_core.specs.Step.{CoreStep, HasPlan}
use Rattle.certificate.specs.declared.certificate.Certificate.{Certificate}
use Rattle.compaction.specs.declared.advanced.Advanced.{Advanced}
use Rattle.compaction.specs.declared.advanced.Advanced.TheVariants as advanced
use Rattle.compaction.specs.declared.compacted.Compacted.{Compacted}
use Rattle.compaction.specs.declared.compacted.Standing.{Standing}
use Rattle.compaction.specs.declared.compacted.Standing.TheVariants.{GoesOn, Done, Refused}
use Rattle.compaction.specs.declared.progress.Phase.TheVariants.{Fresh, Trimming, Choosing, Folding, Closing}
use Rattle.compaction.specs.declared.progress.Progress.{Progress}
use Rattle.compaction.specs.Progress.{IsThrough, begun, fresh, is_planned}
use Rattle.compaction.specs.Told.{standing_of, told}

-- a core, and what its compaction has gone through
pub record Going : Type 0 where
  pub progress : Progress
  pub core : CoreState

abbrev pub going : Progress → CoreState → Going
going progress core = record { progress = progress; core = core }

-- the events that may come next: shards are trimmed one after another, before all else; and a plan
-- is folded or closed only if the compaction has opened it, and closed only once no pair is left
abbrev pub MayCome : Event → Progress → Type 0
MayCome (Trim shard) progress = (progress.phase ≡ Trimming) × (shard ≡ progress.trimmed)
MayCome (Retire shard most) progress = (progress.phase ≡ Choosing) × (0 < most)
MayCome (Adopt shard) progress = progress.phase ≡ Choosing
MayCome MarkSome progress = progress.phase ≡ Choosing
MayCome Step progress = progress.phase ≡ Folding
MayCome Close progress = progress.phase ≡ Closing
MayCome event progress = ⊥

-- how much of a budget the event takes: a retirement as much as it may retire, and another one
abbrev pub cost : Event → ℕ
cost (Retire shard most) = most
cost event = 1

-- the mark plans fewer folds than one of 16 groups of its smaller side, or none
abbrev pub is_poor : Certificate → Bool
is_poor certificate = nat_lt (length certificate.plan * 16)
    (max (min (length certificate.snapshot.abandoned) (length certificate.snapshot.owned)) 1)

-- what the compaction has gone through after one more event: the first shard that there is not
-- refuses its trim, and a mark that is not refused opens a plan
abbrev pub noted : Event → Reply → Progress → Progress
noted (Trim shard) (Trimmed count) old = record old { trimmed = shard + 1 }
noted (Trim shard) (IsRefused refusal) old = record old { phase = Choosing }
noted MarkSome (Marked certificate) old =
    record old { phase = Folding; is_spent = is_poor certificate }
noted Step NoPairLeft old = record old { phase = Closing }
noted Step NoPlan old = record old { phase = Choosing }
noted Close reply old = record old { phase = Choosing }
noted event reply old = old

-- the core gives some reply to one of these events, which takes that much, and the compaction tells
-- what came of it
pub record TakesEvent (taken : ℕ) (tells : Advanced) (old new : Going) : Type 0 where
  pub event : Event
  pub reply : Reply
  pub may_come : MayCome event old.progress
  pub cost_is : cost event ≡ taken
  pub tells_is : tells ≡ told reply
  pub exact : CoreStep old.core event reply new.core
  pub notes : new.progress ≡ noted event reply old.progress

-- a forgetting with which the compaction begins
abbrev pub Begins : Advanced → Progress → Progress → Type 0
Begins tells old new = (old.phase ≡ Fresh) × (tells ≡ advanced.Went) × (new ≡ begun)

-- a forgetting with which it is done
abbrev pub Ends : Advanced → Progress → Progress → Type 0
Ends tells old new = IsThrough old × (tells ≡ advanced.Done) × (new ≡ fresh)

-- the core forgets the spans that can never be live again
pub record TakesForgetting (tells : Advanced) (old new : Going) : Type 0 where
  pub count : ℕ
  pub forgets : Forgets old.core count new.core
  pub notes : Begins tells old.progress new.progress ⊎ Ends tells old.progress new.progress

-- such a forgetting is refused, since a plan is open
pub record TriesForgetting (tells : Advanced) (old new : Going) : Type 0 where
  pub may_come : (old.progress.phase ≡ Fresh) ⊎ IsThrough old.progress
  pub tells_is : tells ≡ advanced.Refused PlanOpen
  pub has_plan : HasPlan old.core
  pub same : new ≡ old

-- a step of a compaction that takes that much, and what it tells: such an event, or a forgetting,
-- which takes one, and is the only step that may end the compaction
abbrev pub Takes : ℕ → Advanced → Going → Going → Type 0
Takes taken tells old new = TakesEvent taken tells old new
    ⊎ ((taken ≡ 1) × (TakesForgetting tells old new ⊎ TriesForgetting tells old new))

-- so many steps, one after another, which take that much together, and after each of which the
-- compaction goes on
abbrev pub TakesAll : ℕ → ℕ → Going → Going → Type 0
TakesAll zero taken old new = (taken ≡ 0) × (new ≡ old)
TakesAll (suc steps) taken old new = (mid : Going) × (before last : ℕ) × (tells : Advanced)
    × TakesAll steps before old mid × Takes last tells mid new × (standing_of tells ≡ GoesOn)
    × (taken ≡ before + last)

-- after such steps one more leaves the compaction so, and all take no more than the budget
pub record Stops (budget : ℕ) (standing : Standing) (old new : Going) : Type 0 where
  pub steps : ℕ
  pub taken : ℕ
  pub last : ℕ
  pub mid : Going
  pub tells : Advanced
  pub before : TakesAll steps taken old mid
  pub takes : Takes last tells mid new
  pub at_most : taken + last ≤ budget
  pub standing_is : standing ≡ standing_of tells

-- the steps take all of the budget, and the compaction goes on; or the last one ends it, or is
-- refused
abbrev pub IsWithin : ℕ → Standing → Going → Going → Type 0
IsWithin budget GoesOn old new = (steps : ℕ) × TakesAll steps budget old new
IsWithin budget standing old new = Stops budget standing old new

-- no compaction is under way, and no plan is open
abbrev pub IsIdle : Progress → CoreState → Type 0
IsIdle progress core = (progress.phase ≡ Fresh) × (core.plan ≡ None)

-- a core that is idle is passed over: nothing is done, and no page goes
pub record PassesOver (done : Compacted) (old new : Going) : Type 0 where
  pub idle : IsIdle old.progress old.core
  pub same : new ≡ old
  pub none : done.pages ≡ 0
  pub standing_is : done.standing ≡ Done

-- a core is passed over, or compacted by as many steps as it takes
abbrev pub CompactsIfPays : Compacted → Going → Going → Type 0
CompactsIfPays done old new = PassesOver done old new ⊎ IsWithin (2 ^ 64 - 1) done.standing old new

-- how a compaction leaves the core: with no plan open once it is done; and it is refused for want
-- of memory, or since a plan is open, and else never
abbrev pub Leaves : Standing → CoreState → Type 0
Leaves GoesOn core = Unit {0}
Leaves Done core = core.plan ≡ None
Leaves (Refused OutOfMemory) core = Unit {0}
Leaves (Refused PlanOpen) core = HasPlan core
Leaves (Refused refusal) core = ⊥

-- the open plan is closed, if there is one
pub record Closes (old new : CoreState) : Type 0 where
  pub reply : Reply
  pub exact : CoreStep old Close reply new
  pub sound : IsSound new

-- a plan that the compaction has opened is closed, and else nothing is done
pub record ClosesOwn (progress : Progress) (old new : CoreState) : Type 0 where
  pub own : is_planned progress.phase ≡ true → Closes old new
  pub none : is_planned progress.phase ≡ false → new ≡ old
