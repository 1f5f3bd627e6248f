use Rattle.std.proofs.Common.{ap, rules}
use Rattle.shard.specs.Kept.{state_of}
use Rattle.shard.specs.Shown.{shown}
use Rattle.shard.specs.State.{begun}
use Rattle.shard.proofs.Start.{IsSound-begun}
use Rattle.shard.proofs.shard.Shard.begin.Goals as goal

pub invariant_of-self : goal.invariant_of-self
invariant_of-self g c = search (rules, IsSound-begun (state_of c.self.inside) c.self.invariant.sound)

pub returns-clause-begun : goal.returns-clause-begun
returns-clause-begun g c = ap begun c.self.view_is

pub returns-clause-plain : goal.returns-clause-plain
returns-clause-plain g c = ap shown c.self.view_is

pub returns-clause-sound : goal.returns-clause-sound
returns-clause-sound g c = (invariant_of-self g c).sound
