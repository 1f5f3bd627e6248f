use Rattle.std.proofs.Common.{List, set, subst}
use Rattle.groups.proofs.KnownLeast.{KnowsLeast-noted}
use Rattle.groups.proofs.Lists.{set-same}
use Rattle.shard.specs.Group.{GroupState}
use Rattle.shard.specs.Least.{IsLeast, KnowsLeast}
use Rattle.shard.proofs.least_live.note_byte.Goals as goal

pub returns-clause-known : goal.returns-clause-known
returns-clause-known g c groups here known =
    let bytes = c.args.least.now.items in
    subst (λ (gs : List GroupState). KnowsLeast gs (set bytes c.args.index c.byte_of_open.result)) (set-same groups c.args.index c.args.group.now here)
    (KnowsLeast-noted IsLeast groups bytes known c.args.index c.byte_of_open.result c.args.group.now c.byte_of_open.ensures)
