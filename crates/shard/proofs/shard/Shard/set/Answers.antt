use Rattle.std.proofs.Common.{refl}
use Rattle.shard.specs.declared.shard.replacing.Replaced.TheVariants.{NotHere}
use Rattle.shard.proofs.ShownLogs.{was_replaced-Sets}
use Rattle.shard.proofs.shard.Shard.set.Goals as goal

pub returns-in_default-clause-found : goal.returns-in_default-clause-found
returns-in_default-clause-found g c = was_replaced-Sets c.args.self.now c.args.self.now c.args.key.now c.args.words.now NotHere c.find.ensures.sound (c.in_default.ensures.place, refl)
