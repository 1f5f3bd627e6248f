use Rattle.std.proofs.Common.{◌*◌, ◌+◌}
use Rattle.span.specs.declared.limits.TheConstants.{MOST_SPANS}
use Rattle.span.specs.FirstLive.{HasNoneBetween}
use Rattle.arena_core.specs.State.{shown}
use Rattle.arena_core.proofs.machine.Core.first_in_spans.Given as goal

abbrev pub invariant-loop-serial : goal.invariant-loop-serial
invariant-loop-serial g l = HasNoneBetween (shown l.fn.self) (MOST_SPANS * l.fn.shard + l.fn.from) (MOST_SPANS * l.fn.shard + l.serial)
