use Rattle.arena_core.specs.Forgets.{dead_spans}
use Rattle.arena_core.proofs.machine.forgetting.Core+Counted.forget.Given as goal

abbrev pub ghost-of : goal.ghost-of
ghost-of a = dead_spans a._first.now.items a._second.now
