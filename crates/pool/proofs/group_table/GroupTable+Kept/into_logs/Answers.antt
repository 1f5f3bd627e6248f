use Rattle.std.proofs.Common.{◌≡◌, ◌∙◌, ◌++◌, ap, arith, length, map, rules}
use Rattle.std.specs.FinMap as table
use Rattle.std.proofs.lemmas.List.Sorted.{IsNonDecreasingBy-from_sort_by_key}
use Rattle.span.specs.SpanLogs.{span_of_log}
use Rattle.groups.specs.Group.{spans_in}
use Rattle.pool.specs.Groups.{GroupsState}
use Rattle.pool.specs.Ranked.{head_rank}
use Rattle.pool.proofs.RankedGroups.{AreUp-found}
use Rattle.pool.proofs.SortedLists.{groups-sorted}
use Rattle.pool.proofs.group_table.GroupTable+Kept.into_logs.Goals as goal
use Rattle.pool.proofs.group_table.GroupTable+Kept.into_logs.Goals.{After-sort_unstable_by_key}

same : (c : After-sort_unstable_by_key) → c.sort_unstable_by_key.new.self.items ≡ c.args.self.groups
same c =
    groups-sorted c.self.inside.row.items c.sort_unstable_by_key.new.self.items (AreUp-found c.self.inside.row.items (table.get c.self.inside.places.entries) c.self.invariant.kept.found)
    c.sort_unstable_by_key.ensures.permutation
    (IsNonDecreasingBy-from_sort_by_key head_rank _ c.sort_unstable_by_key.ensures.sorted (λ a r q k. search rules))
    ∙ ap (λ (s : GroupsState). s.groups) c.self.view_is

pub into_logs-requires : goal.into_logs-requires
into_logs-requires c = omega (arith, ap (λ gs. length (spans_in gs)) (same (goal.at.into_logs-requires c).After-sort_unstable_by_key), c.requires)

pub returns-clause-logs : goal.returns-clause-logs
returns-clause-logs c = c.into_logs.ensures.logs
    ∙ ap (λ gs. map span_of_log c.args.logs.now.items ++ spans_in gs) (same (goal.at.returns-clause-logs c).After-sort_unstable_by_key)

pub returns-clause-room : goal.returns-clause-room
returns-clause-room c = omega (arith, ap (λ gs. length (spans_in gs)) (same (goal.at.returns-clause-room c).After-sort_unstable_by_key), c.into_logs.ensures.room)
