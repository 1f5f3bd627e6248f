use Rattle.std.proofs.Common.{rules}
use Rattle.groups.proofs.DeadGuests.{AreApart-live, union_of-live}
use Rattle.groups.proofs.spans.Spans+Counted.forget_guests.Goals as goal

pub invariant_of-self : goal.invariant_of-self
invariant_of-self c = search (rules, union_of-live, AreApart-live)
