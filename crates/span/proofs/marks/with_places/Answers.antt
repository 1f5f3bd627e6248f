use Rattle.std.proofs.Common.{rules}
use Rattle.span.proofs.LongerMarks.{get_or-lengthened}
use Rattle.span.proofs.marks.with_places.Goals as goal

pub returns-clause-same : goal.returns-clause-same
returns-clause-same g c index = search (rules, get_or-lengthened)
