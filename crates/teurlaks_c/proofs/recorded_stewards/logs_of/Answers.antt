use Rattle.std.proofs.Common.{ap, ◌∙◌}
use Rattle.std_alloc.specs.Arc.{arc_with_value}
use Rattle.teurlaks_c.proofs.recorded_stewards.logs_of.Goals as goal

pub returns-in-Ok-clause-same : goal.returns-in-Ok-clause-same
returns-in-Ok-clause-same c = ap (arc_with_value c.args.arena.now) (c.take_logs.ensures.same ∙ c.in-Some.ensures.value)

pub returns-in-Err-clause-same : goal.returns-in-Err-clause-same
returns-in-Err-clause-same c = ap (arc_with_value c.args.arena.now) (c.take_logs.ensures.same ∙ c.in-Some.ensures.value)
