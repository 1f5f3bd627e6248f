use Rattle.std.proofs.Common.{◌∙◌, List, ap, map, rules, filter}
use Rattle.std.specs.FinMap as table
use Rattle.std.proofs.lemmas.List.Sorted.{IsNonDecreasingBy-from_sort_by_key}
use Rattle.span.specs.Ids.{rank}
use Rattle.span.specs.declared.entry.Entry.{Entry}
use Rattle.groups.specs.Group.{summary}
use Rattle.pool.specs.Groups.{GroupsState}
use Rattle.pool.specs.State.{PooledState}
use Rattle.pool.proofs.RankedGroups.{AreUp-found}
use Rattle.pool.proofs.SortedLists.{summaries-sorted}
use Rattle.pool.proofs.Walked.{paged}
use Rattle.pool.proofs.group_table.GroupTable.summaries.Goals as goal

pub returns : goal.returns
returns g c =
    let row = c.self.inside.row.items in
    summaries-sorted row c.in_ok-list.list.items c.sort_unstable_by_key.new.self.items (AreUp-found row (table.get c.self.inside.places.entries) c.self.invariant.kept.found)
    (c.in_ok-list.ensures ∙ ap (λ (gs : List PooledState). map summary (filter paged gs)) c.as_slice.ensures.value) c.sort_unstable_by_key.ensures.permutation
    (IsNonDecreasingBy-from_sort_by_key (λ (entry : Entry). rank entry.id) _ c.sort_unstable_by_key.ensures.sorted (λ a r q k. search rules))
    ∙ ap (λ (s : GroupsState). map summary (filter paged s.groups)) c.self.view_is
