use Rattle.trace_runner.proofs.Names.{◌≡◌, ◌-◌, Some, replicate, Calls, Kept, Carries, KeepsShards, KnowsPlan, news_at}
use Rattle.arena_core.specs.declared.event.Event.TheVariants as event
use Rattle.trace_runner.proofs.plans.Plans.take_steps_left.Given as goal

-- that many steps were taken
abbrev pub invariant-loop-taken : goal.invariant-loop-taken
invariant-loop-taken l = record {
  made : (kept : Kept) → Carries (replicate l.taken (Calls event.Step)) l.fn.core (news_at kept l.fn.self) l.core (news_at kept l.self);
  knows : KnowsPlan l.self l.core;
  left : l.self.left ≡ Some (l.left - l.taken);
  shards : KeepsShards l.fn.core l.core;
  marks : l.self.marks ≡ l.fn.self.marks;
}
