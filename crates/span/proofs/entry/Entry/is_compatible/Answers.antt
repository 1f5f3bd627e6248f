use Rattle.std.proofs.Common.{rules, ap}
use Rattle.span.specs.Classes.{width_of}
use Rattle.span.proofs.Entries.{are_compatible-is}
use Rattle.span.proofs.entry.Entry.is_compatible.Goals as goal

pub returns-then-eq : goal.returns-then-eq
returns-then-eq c = are_compatible-is c.args.self.now c.args.other.now c.is_disjoint.result (ap width_of (search rules)) c.is_disjoint.ensures
