use Rattle.std.proofs.Common.{◌∙◌, ◌∷◌, ap}
use Rattle.std.specs.FinSet.{len}
use Rattle.groups.specs.Spans.{SpansState, all_spans, live_count}
use Rattle.groups.proofs.LiveCounts.{len-union_of}
use Rattle.groups.proofs.spans.Spans.live.Goals as goal

pub returns-clause-live : goal.returns-clause-live
returns-clause-live g c = c.count.ensures.count ∙ ap len c.self.invariant.occupied_is
    ∙ len-union_of (c.self.inside.head ∷ c.self.inside.guests.items) c.self.invariant.apart ∙ ap (λ (g : SpansState). live_count (all_spans g)) c.self.view_is
