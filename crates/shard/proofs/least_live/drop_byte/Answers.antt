use Rattle.std.proofs.Common.{subst, sym}
use Rattle.std.specs.Prelude.{remove}
use Rattle.shard.specs.Least.{IsLeast, KnowsLeast}
use Rattle.groups.proofs.KnownLeast.{KnowsLeast-remove}
use Rattle.shard.proofs.least_live.drop_byte.Goals as goal

pub returns-clause-known : goal.returns-clause-known
returns-clause-known c groups known =
    subst (KnowsLeast (remove groups c.args.index)) (sym c.remove.ensures.items) (KnowsLeast-remove IsLeast groups c.args.least.now.items known c.args.index)
