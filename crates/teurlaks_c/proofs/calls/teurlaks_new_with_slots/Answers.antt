use Rattle.std.proofs.Common.{subst}
use Rattle.marks.specs.Numbers.{Limits}
use Rattle.teurlaks_c.specs.Calls.{HasNew}
use Rattle.teurlaks_c.proofs.calls.teurlaks_new_with_slots.Goals as goal

pub returns-clause-ok : goal.returns-clause-ok
returns-clause-ok c done = subst (λ (limits : Limits). HasNew limits c.leave_core.new.out.held) c.in-Some.ensures.parts (c.leave_core.ensures.ok done)
