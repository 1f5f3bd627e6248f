use Rattle.std.proofs.Common.{subst}
use Rattle.marks.specs.Numbers.{Limits}
use Rattle.teurlaks_c.specs.StewardCalls.{HasNewRecord}
use Rattle.teurlaks_c.proofs.recorded_stewards.teurlaks_arena_open_recorded_with_slots.Goals as goal

pub returns-clause-ok : goal.returns-clause-ok
returns-clause-ok c done = subst (λ (limits : Limits). HasNewRecord limits c.leave_recorder.new.out.share) c.in-Some.ensures.parts (c.leave_recorder.ensures.ok done)
