use Rattle.std.proofs.Common.{arith}
use Rattle.bitmap.proofs.InParts.{numbers_in-remove}
use Rattle.bitmap.proofs.parts.remove_in.Goals as goal

pub returns-clause-numbers : goal.returns-clause-numbers
returns-clause-numbers c = rw (c.remove.ensures, c.index_mut.ensures.value) (numbers_in-remove c.args.parts.now.items c.args.number (omega arith) c.index_mut.result.now)
