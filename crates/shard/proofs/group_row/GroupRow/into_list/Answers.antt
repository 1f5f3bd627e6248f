use Rattle.std.proofs.Common.{subst, sym}
use Rattle.groups.specs.Group.{Ascend}
use Rattle.shard.specs.Row.{RowState}
use Rattle.shard.proofs.group_row.GroupRow.into_list.Goals as goal

pub line_up-requires-clause-ascend : goal.line_up-requires-clause-ascend
line_up-requires-clause-ascend g c = subst (λ (r : RowState). Ascend r.items) (sym c.self.view_is) c.requires
