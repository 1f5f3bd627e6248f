use Rattle.std.proofs.Common.{rules}
use Rattle.groups.proofs.Places.{guest_at, with_span_at-guest}
use Rattle.groups.proofs.spans.Spans.set.Goals as goal

pub returns-else-place-eq0-clause-found : goal.returns-else-place-eq0-clause-found
returns-else-place-eq0-clause-found g c span at = c.set_in_guest.ensures.found span (guest_at c.args.self.now.head c.args.self.now.guests c.args.place span c.if-place-eq0.false at)

pub returns-else-place-eq0-clause-set : goal.returns-else-place-eq0-clause-set
returns-else-place-eq0-clause-set g c span at = search (rules, with_span_at-guest, guest_at)

pub returns-else-place-eq0-clause-refused : goal.returns-else-place-eq0-clause-refused
returns-else-place-eq0-clause-refused g c span at = c.set_in_guest.ensures.refused span (guest_at c.args.self.now.head c.args.self.now.guests c.args.place span c.if-place-eq0.false at)
