use Rattle.std.proofs.Common.{◌&&◌, ◌∙◌, ap, length}
use Rattle.bitmap.specs.Slots.{ascending, has_bit}
use Rattle.lane_kernels.specs.Rows.{padded, survives}
use Rattle.lane_kernels.proofs.Rows.{full_fits, left_fits}
use Rattle.lane_kernels.proofs.slot_rows.write_row.Goals as goal

pub returns-then-is_disjoint-clause-bits : goal.returns-then-is_disjoint-clause-bits
returns-then-is_disjoint-clause-bits c =
    let a = c.args in
    rw c.copy_from_slice.ensures.after (full_fits a.set.now c.union_all.result a.planes.now a.full.now c.union_all.ensures (c.is_disjoint.ensures.0 c.if-is_disjoint.true) c.requires.full)

pub returns-clause-bits : goal.returns-clause-bits
returns-clause-bits c =
    let a = c.args in
    let copy = c.copy_from_slice.new.self in
    let is = c.copy_from_slice.ensures.after in
    left_fits a.set.now a.planes.now a.rows.now a.full.now c.take_off_all.new.row
    (padded (length copy)) c.count-count.ensures.below c.requires.rows c.requires.full (ap (λ l. padded (length l)) is ∙ ap padded c.requires.full.width)
    (λ j. c.take_off_all.ensures.bits j ∙ ap (λ l. has_bit l j && survives (padded (length copy)) a.rows.now j (ascending a.set.now)) is)
