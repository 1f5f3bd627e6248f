use Rattle.std.proofs.Common.{arith}
use Rattle.std.proofs.lemmas.List.{nil_from_length}
use Rattle.shard.proofs.group_row.GroupRow.pop.Goals as goal

pub returns-then-count-eq0-clause-empty : goal.returns-then-count-eq0-clause-empty
returns-then-count-eq0-clause-empty g c none = nil_from_length c.args.self.now.items (omega (arith, c.len-count.ensures, c.if-count-eq0.true))

pub returns-clause-empty : goal.returns-clause-empty
returns-clause-empty g c none = absurd cc
