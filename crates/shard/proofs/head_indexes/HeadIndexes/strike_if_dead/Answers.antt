use Rattle.std.proofs.Common.{subst, sym}
use Rattle.std.specs.FinMap as map
use Rattle.groups.specs.Group.{HasNoHead}
use Rattle.span.specs.Ids.{rank}
use Rattle.span.specs.declared.id.SpanId.{SpanId}
use Rattle.shard.specs.Heads.{KnowsNoHeads}
use Rattle.shard.proofs.KnownHeads.{KnowsHeads-written}
use Rattle.shard.proofs.NotedGuests.{KnowsNoHeads-remove}
use Rattle.shard.proofs.head_indexes.HeadIndexes.strike_if_dead.Goals as goal

pub returns-clause-dead : goal.returns-clause-dead
returns-clause-dead g c dead groups entries knows =
    subst (λ (i : SpanId). KnowsNoHeads c.args.number groups (map.remove entries (rank i)) c.note_away.new.self) c.id.ensures
    (KnowsNoHeads-remove c.args.number groups entries c.args.self.now knows c.note_away.new.self c.note_away.ensures.base c.id.result c.note_away.ensures.others c.note_away.ensures.this)

pub returns-clause-heads : goal.returns-clause-heads
returns-clause-heads g c groups knows none =
    KnowsHeads-written c.args.number groups c.args.self.now c.note_away.new.self c.note_away.ensures.base c.id.result
    (subst (HasNoHead groups) (sym c.id.ensures) none) c.note_away.ensures.entries knows
