use Rattle.std.proofs.Common.{refl}
use Rattle.shard.proofs.shard.Shard.first_index.Goals as goal

-- a head stands at place 0 of its group
pub returns-clause-place : goal.returns-clause-place
returns-clause-place g c =
    let at = c.is_head.ensures.yes c.if-not-is_head.false in
    (at.0, at.0.head, record { group_is = at.1.here; span_is = refl; id_is = at.1.head_is })
