-- What a step of a compaction is told to have done, by the core's reply.
use Rattle.arena_core.specs.declared.reply.Reply.{Reply}
use Rattle.arena_core.specs.declared.reply.Reply.TheVariants.{Stepped, Refused as IsRefused}
use Rattle.arena_core.specs.declared.reply.Refusal.TheVariants.{OutOfMemory, PlanOpen}
use Rattle.fold.specs.declared.step.Step.TheVariants.{Folded as IsFolded}
use Rattle.compaction.specs.declared.advanced.Advanced.{Advanced}
use Rattle.compaction.specs.declared.advanced.Advanced.TheVariants.{Folded, Went, Done, Refused}
use Rattle.compaction.specs.declared.compacted.Standing.{Standing}
use Rattle.compaction.specs.declared.compacted.Standing.TheVariants as standing

-- each fold by its heads, and each refusal that may be tried again; a shard that refuses otherwise
-- is passed over
abbrev pub told : Reply → Advanced
told (Stepped abandoned owned IsFolded) = Folded abandoned owned
told (IsRefused OutOfMemory) = Refused OutOfMemory
told (IsRefused PlanOpen) = Refused PlanOpen
told reply = Went

-- how such a step leaves the compaction
abbrev pub standing_of : Advanced → Standing
standing_of (Folded abandoned owned) = standing.GoesOn
standing_of Went = standing.GoesOn
standing_of Done = standing.Done
standing_of (Refused refusal) = standing.Refused refusal
