use Rattle.std.proofs.Common.{arith}
use Rattle.bitmap.proofs.InParts.{numbers_in-insert}
use Rattle.bitmap.proofs.parts.insert_in.Goals as goal

pub returns-clause-numbers : goal.returns-clause-numbers
returns-clause-numbers c = rw (c.insert.ensures, c.index_mut.ensures.value) (numbers_in-insert c.args.parts.now.items c.args.number (omega arith) c.index_mut.result.now)
