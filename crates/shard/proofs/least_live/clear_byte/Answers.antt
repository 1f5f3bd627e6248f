use Rattle.groups.proofs.KnownLeast.{KnowsLeast-noted}
use Rattle.shard.specs.Least.{IsLeast}
use Rattle.shard.proofs.LeastLive.{IsLeast-zero}
use Rattle.shard.proofs.least_live.clear_byte.Goals as goal

pub returns-clause-known : goal.returns-clause-known
returns-clause-known c groups group known = KnowsLeast-noted IsLeast groups c.args.least.now.items known c.args.index 0 group (IsLeast-zero group)
