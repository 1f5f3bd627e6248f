use Rattle.std.proofs.Common.{arith}
use Rattle.shard.proofs.Selected.{AreSelected-all}
use Rattle.shard.proofs.shard.retiring.first_of.Goals as goal

pub returns-then-most-len : goal.returns-then-most-len
returns-then-most-len c = AreSelected-all c.args.told.items c.args.most (omega arith)
