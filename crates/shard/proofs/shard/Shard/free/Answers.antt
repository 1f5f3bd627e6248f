use Rattle.std.proofs.Common.{refl}
use Rattle.shard.specs.declared.shard.Freed.TheVariants.{NotHere}
use Rattle.shard.proofs.ShownLogs.{was_freed-Frees}
use Rattle.shard.proofs.shard.Shard.free.Goals as goal

pub returns-in_default-clause-step : goal.returns-in_default-clause-step
returns-in_default-clause-step g c = (c.in_default.ensures.place, refl)

pub returns-in_default-clause-found : goal.returns-in_default-clause-found
returns-in_default-clause-found g c = was_freed-Frees c.args.self.now c.args.self.now c.args.key.now NotHere c.find.ensures.sound (c.in_default.ensures.place, refl)
