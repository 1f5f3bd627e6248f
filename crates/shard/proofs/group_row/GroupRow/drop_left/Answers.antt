use Rattle.std.proofs.Common.{sym, subst}
use Rattle.groups.specs.Group.{Ascend}
use Rattle.shard.specs.Row.{RowState}
use Rattle.shard.proofs.group_row.GroupRow.drop_left.Goals as goal

pub part-stayed-requires-clause-ascend : goal.part-stayed-requires-clause-ascend
part-stayed-requires-clause-ascend g c = subst (λ (r : RowState). Ascend r.items) (sym c.self.view_is) c.requires
