-- A mark that sees all, by one that sees the sparsest.
use Rattle.std.proofs.Common.{Ok, Err, Result, MatchResult}
use Rattle.certificate.specs.declared.certificate.Certificate.{Certificate}
use Rattle.marks.specs.declared.sight.Sight.TheVariants.{All}
use Rattle.marks.proofs.InPart.{IsLargest-few}
use Rattle.arena_core.specs.State.{CoreState}
use Rattle.arena_core.specs.Step.{CoreStep, HasTooMany}
use Rattle.arena_core.specs.declared.event.Event.TheVariants.{Mark, MarkSome}
use Rattle.arena_core.specs.declared.reply.Refusal.{Refusal}
use Rattle.arena_core.specs.declared.reply.Refusal.TheVariants.{OutOfMemory, PlanOpen}
use Rattle.arena_core.specs.declared.reply.Reply.TheVariants.{Marked, Refused}

-- where no side has too many groups
pub Mark-from_some : (old new : CoreState) (result : Result Certificate Refusal) → (HasTooMany old → ⊥)
    → MatchResult result (λ certificate. CoreStep old MarkSome (Marked certificate) new) (λ refusal. CoreStep old MarkSome (Refused refusal) new)
    → MatchResult result (λ certificate. CoreStep old Mark (Marked certificate) new) (λ refusal. CoreStep old Mark (Refused refusal) new)
Mark-from_some old new (Ok certificate) few step = record { no_plan = step.no_plan; largest = IsLargest-few All old.pool old.shards certificate few step.largest; after = step.after }
Mark-from_some old new (Err PlanOpen) few step = step
Mark-from_some old new (Err OutOfMemory) few (no_plan, same) = ((no_plan, few), same)
Mark-from_some old new (Err refusal) few step = absurd step
