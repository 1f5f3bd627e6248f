use Rattle.groups.specs.Group.{IsHeadOf}
use Rattle.pool.proofs.Adopted.{IsDoubled-lowest, WouldDouble-here}
use Rattle.pool.proofs.pool.Pool.lowest_would_double.Goals as goal

pub returns : goal.returns
returns g c =
    let (index, group, lowest, head_is) = c.requires in
    let from : IsHeadOf c.args.self.now.groups c.args.head index group = record { here = lowest.here; head_is = head_is } in (
      (λ t. (index, group, lowest, WouldDouble-here c.args.self.now c.would_double.ensures.sound c.args.shard.now c.args.head index group from (c.would_double.ensures.doubles.0 t))),
      (λ doubled. c.would_double.ensures.doubles.1 (index, group, from, IsDoubled-lowest c.args.self.now c.would_double.ensures.sound.ascending c.args.shard.now index group lowest doubled)),
    )
