use Rattle.std.proofs.Common.{◌∙◌, ap, length, sym, filter}
use Rattle.pool.specs.Groups.{GroupsState}
use Rattle.pool.proofs.Walked.{paged, pages-in_order}
use Rattle.pool.proofs.group_table.GroupTable.pages.Goals as goal

pub returns : goal.returns
returns g c = c.pages.ensures ∙ ap (λ gs. length (filter paged gs)) c.as_slice.ensures.value ∙ sym (pages-in_order c.self.inside.row.items)
    ∙ ap (λ (s : GroupsState). length (filter paged s.groups)) c.self.view_is
