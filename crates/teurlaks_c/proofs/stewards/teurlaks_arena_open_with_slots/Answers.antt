use Rattle.std.proofs.Common.{subst}
use Rattle.marks.specs.Numbers.{Limits}
use Rattle.teurlaks_c.specs.StewardCalls.{HasNewArena}
use Rattle.teurlaks_c.proofs.stewards.teurlaks_arena_open_with_slots.Goals as goal

pub returns-clause-ok : goal.returns-clause-ok
returns-clause-ok c done = subst (λ (limits : Limits). HasNewArena limits c.leave_steward.new.out.share) c.in-Some.ensures.parts (c.leave_steward.ensures.ok done)
