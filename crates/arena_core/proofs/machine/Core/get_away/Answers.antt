use Rattle.std.proofs.Common.{◌∙◌, ap, nat_cmp}
use Rattle.std.specs.FinMap as map
use Rattle.span.specs.Ids.{rank}
use Rattle.arena_core.specs.Moved.{Entries}
use Rattle.arena_core.proofs.Moved.{no_other-unnamed}
use Rattle.arena_core.proofs.machine.Core.get_away.Goals as goal

pub get_pooled-requires-clause-other : goal.get_pooled-requires-clause-other
get_pooled-requires-clause-other g c =
    no_other-unnamed c.self.inside c.self.invariant c.self.view_is c.args.span
    (ap (λ (entries : Entries). map.get entries (rank c.args.span)) (c.is_empty.ensures.0 c.if-is_empty.true) ∙ map.get-empty nat_cmp (rank c.args.span))
