use Rattle.std.proofs.Common.{◌∙◌, ap, arith, length, sym}
use Rattle.groups.specs.Group.{spans_in}
use Rattle.pool.specs.Groups.{GroupsState}
use Rattle.pool.proofs.Walked.{spans-in_order}
use Rattle.pool.proofs.group_table.GroupTable.span_count.Goals as goal

pub span_count-requires : goal.span_count-requires
span_count-requires g c = omega (
  arith,
  ap (λ gs. length (spans_in gs)) c.as_slice.ensures.value,
  spans-in_order c.self.inside.row.items,
  ap (λ (s : GroupsState). length (spans_in s.groups)) c.self.view_is,
  c.requires,
)

pub returns : goal.returns
returns g c = c.span_count.ensures ∙ ap (λ gs. length (spans_in gs)) c.as_slice.ensures.value ∙ sym (spans-in_order c.self.inside.row.items)
    ∙ ap (λ (s : GroupsState). length (spans_in s.groups)) c.self.view_is
