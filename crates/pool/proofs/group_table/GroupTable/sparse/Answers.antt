use Rattle.std.proofs.Common.{Global, List, Vec, map, subst, IfOk, filter}
use Rattle.std.proofs.lemmas.Result.{IfOk-weaker}
use Rattle.groups.specs.Group.{summary}
use Rattle.span.specs.declared.entry.Entry.{Entry}
use Rattle.pool.specs.Groups.{GroupsState}
use Rattle.pool.specs.Ranked.{in_order}
use Rattle.pool.specs.Sparse.{HaveSparsest}
use Rattle.pool.specs.State.{PooledState}
use Rattle.pool.proofs.SparseGroups.{HaveSparsest-in_order}
use Rattle.pool.proofs.Walked.{paged}
use Rattle.pool.proofs.group_table.GroupTable.sparse.Goals as goal

pub returns : goal.returns
returns g c =
    let row = c.self.inside.row.items in
    let most = c.args.most in
    subst (λ (s : GroupsState). IfOk c.sparse.result (λ (list : Vec Entry Global). HaveSparsest most (map summary (filter paged s.groups)) list.items)) c.self.view_is
    (IfOk-weaker c.sparse.result (λ (list : Vec Entry Global). HaveSparsest most (map summary (filter paged c.as_slice.result.now)) list.items)
    (λ (list : Vec Entry Global). HaveSparsest most (map summary (filter paged (in_order row))) list.items)
    (λ list found. HaveSparsest-in_order most row list.items
    (subst (λ (gs : List PooledState). HaveSparsest most (map summary (filter paged gs)) list.items) c.as_slice.ensures.value found))
    c.sparse.ensures)
