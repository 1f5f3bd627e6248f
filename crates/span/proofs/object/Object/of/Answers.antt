use Rattle.std.proofs.Common.{rules}
use Rattle.std.proofs.lemmas.List.{drop-replicate}
use Rattle.span.proofs.Objects.{IsKept-padded}
use Rattle.span.proofs.object.Object.of.Goals as goal

pub invariant_of-result : goal.invariant_of-result
invariant_of-result c = search (rules, IsKept-padded, drop-replicate)
