use Rattle.shard.proofs.shard.Shard.near_guest.Goals as goal

pub returns : goal.returns
returns g c = c.is_guest.ensures c.if-not-is_guest.false
