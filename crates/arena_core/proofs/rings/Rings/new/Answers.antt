use Rattle.std.proofs.Common.{ap, replicate, ◌∙◌}
use Rattle.arena_core.specs.Filled.{filled}
use Rattle.arena_core.specs.Rings.{new_ring}
use Rattle.arena_core.proofs.FilledLists.{filled-empty}
use Rattle.arena_core.proofs.rings.Rings.new.Goals as goal

pub returns : goal.returns
returns c =
    ap (filled c.args.shards (replicate c.args.shards (new_ring c.args.capacity))) c.new.ensures.items
    ∙ filled-empty c.args.shards (replicate c.args.shards (new_ring c.args.capacity))
