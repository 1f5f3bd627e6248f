use Rattle.std.proofs.Common.{◌∙◌, List, ap, arith, length, sym, filter}
use Rattle.std.specs.FinMap as table
use Rattle.groups.specs.Group.{spans_in}
use Rattle.groups.specs.Spans.{live_count}
use Rattle.pool.specs.Groups.{GroupsState}
use Rattle.pool.specs.Ranked.{in_order}
use Rattle.pool.specs.State.{PooledState}
use Rattle.pool.proofs.HeadPlaces.{at_most_ids}
use Rattle.pool.proofs.RankedGroups.{AreUp-found, length-row}
use Rattle.pool.proofs.Walked.{live-in_order, paged}
use Rattle.pool.proofs.group_table.GroupTable.live.Goals as goal

pub live-requires : goal.live-requires
live-requires g c = omega (
  arith,
  ap (λ (gs : List PooledState). length gs) c.as_slice.ensures.value,
  length-row c.self.inside.row.items,
  at_most_ids (in_order c.self.inside.row.items) (AreUp-found c.self.inside.row.items (table.get c.self.inside.places.entries) c.self.invariant.kept.found),
)

pub returns-clause-live : goal.returns-clause-live
returns-clause-live g c = c.live.ensures.live ∙ ap (λ gs. live_count (spans_in (filter paged gs))) c.as_slice.ensures.value ∙ sym (live-in_order c.self.inside.row.items)
    ∙ ap (λ (s : GroupsState). live_count (spans_in (filter paged s.groups))) c.self.view_is

pub returns-clause-at_most : goal.returns-clause-at_most
returns-clause-at_most g c = omega (
  arith,
  c.live.ensures.at_most,
  ap (λ (gs : List PooledState). length gs) c.as_slice.ensures.value,
  length-row c.self.inside.row.items,
  ap (λ (s : GroupsState). length s.groups) c.self.view_is,
)
