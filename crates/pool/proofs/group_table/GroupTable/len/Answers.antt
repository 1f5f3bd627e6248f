use Rattle.std.proofs.Common.{◌∙◌, ap, length}
use Rattle.pool.specs.Groups.{GroupsState}
use Rattle.pool.proofs.RankedGroups.{length-row}
use Rattle.pool.proofs.group_table.GroupTable.len.Goals as goal

pub returns : goal.returns
returns g c = c.len.ensures ∙ c.self.inside.row.ok.0 ∙ length-row c.self.inside.row.items ∙ ap (λ (s : GroupsState). length s.groups) c.self.view_is
