use Rattle.groups.proofs.Places.{guest_at}
use Rattle.groups.proofs.spans.Spans.free.Goals as goal

pub returns-else-place-eq0-clause-found : goal.returns-else-place-eq0-clause-found
returns-else-place-eq0-clause-found g c span at = c.free_in_guest.ensures.found span (guest_at c.args.self.now.head c.args.self.now.guests c.args.place span c.if-place-eq0.false at)
