use Rattle.std.proofs.Common.{ap, ◌∙◌}
use Rattle.std.specs.Prelude.{Some}
use Rattle.teurlaks_c.proofs.calls.leave_core.Goals as goal

pub returns-in-Ok-clause-ok : goal.returns-in-Ok-clause-ok
returns-in-Ok-clause-ok c done = record {
  held = c.new-held.result;
  is = c.of.ensures ∙ ap Some c.in-Ok.ensures.ok;
  core = c.new-held.ensures.core ∙ c.with_limits.ensures.core;
  last = c.new-held.ensures.last;
  compaction = c.new-held.ensures.compaction;
}
