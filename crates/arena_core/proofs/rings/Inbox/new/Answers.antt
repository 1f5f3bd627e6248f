use Rattle.std.proofs.Common.{ap, ◌∙◌}
use Rattle.arena_core.specs.Filled.{filled}
use Rattle.arena_core.specs.Rings.{new_ring}
use Rattle.arena_core.proofs.FilledLists.{filled-empty}
use Rattle.arena_core.proofs.rings.Inbox.new.Goals as goal

pub returns : goal.returns
returns c = ap (filled c.args.workers (new_ring c.args.capacity)) c.new.ensures.items ∙ filled-empty c.args.workers (new_ring c.args.capacity)
