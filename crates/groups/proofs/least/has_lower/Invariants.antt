use Rattle.std.proofs.Common.{◌↔◌, IsTrue}
use Rattle.groups.specs.Least.{HasLower}
use Rattle.groups.proofs.least.has_lower.Given as goal

abbrev pub invariant-loop-index : goal.invariant-loop-index
invariant-loop-index l = IsTrue l.found ↔ HasLower l.bytes l.limit l.first l.index
