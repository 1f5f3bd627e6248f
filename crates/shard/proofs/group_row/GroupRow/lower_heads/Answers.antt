use Rattle.std.proofs.Common.{◌≡◌, Some, ap, arith, length, slice_get, subst, sym}
use Rattle.groups.specs.Group.{Ascend}
use Rattle.shard.specs.Row.{RowState}
use Rattle.shard.proofs.Orders.{length_order}
use Rattle.shard.proofs.group_row.GroupRow.lower_heads.Goals as goal

pub lower_heads-requires-clause-ascend : goal.lower_heads-requires-clause-ascend
lower_heads-requires-clause-ascend g c = rw (c.as_slice.ensures.value, c.as_slice-2.ensures.value) (subst (λ (r : RowState). Ascend r.items) (sym c.self.view_is) c.requires)

pub returns-clause-within : goal.returns-clause-within
returns-clause-within g c =
    omega (
      arith,
      length_order c.self.inside.groups.items c.self.inside.order.items c.self.invariant,
      c.lower_heads.ensures.within,
      ap length c.as_slice-2.ensures.value,
      ap (λ (r : RowState). length r.items) c.self.view_is,
    )

pub returns-clause-lower : goal.returns-clause-lower
returns-clause-lower g c other group below here =
    c.lower_heads.ensures.lower other group below
    (rw (c.as_slice.ensures.value, c.as_slice-2.ensures.value) (subst (λ (r : RowState). slice_get r.items other ≡ Some group) (sym c.self.view_is) here))

pub returns-clause-others : goal.returns-clause-others
returns-clause-others g c other group above here =
    c.lower_heads.ensures.others other group above
    (rw (c.as_slice.ensures.value, c.as_slice-2.ensures.value) (subst (λ (r : RowState). slice_get r.items other ≡ Some group) (sym c.self.view_is) here))
