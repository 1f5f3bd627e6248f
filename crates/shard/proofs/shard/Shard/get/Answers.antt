use Rattle.shard.specs.declared.shard.Found.TheVariants.{NotHere}
use Rattle.shard.proofs.ShownLogs.{value_found-Gets}
use Rattle.shard.proofs.shard.Shard.get.Goals as goal

pub returns-in-None-clause-found : goal.returns-in-None-clause-found
returns-in-None-clause-found g c = c.in-None.ensures.place

pub returns-in-None-clause-plain : goal.returns-in-None-clause-plain
returns-in-None-clause-plain g c = value_found-Gets c.args.self.now c.find.ensures.sound c.args.key.now NotHere c.in-None.ensures.place
