use Rattle.std.proofs.Common.{◌≡◌, ◌<◌, ◌∙◌, ap, sym, arith, length}
use Rattle.lane_kernels.specs.Planes.{sets_of}
use Rattle.lane_kernels.proofs.Columns.{length-sets_of, row_ends, row_tells}
use Rattle.lane_kernels.proofs.Rows.{fits-from_columns, test-is_disjoint}
use Rattle.lane_kernels.proofs.planes.Planes.disjoint_row.Goals as goal

pub fill_row-requires-clause-row : goal.fill_row-requires-clause-row
fill_row-requires-clause-row c =
    let rows = c.self.inside in
    let long : length (sets_of rows.first.items rows.second.items rows.third.items rows.fourth.items) ≡ length c.args.self.now = ap length c.self.view_is in
    omega (arith, c.requires, long, length-sets_of rows.first.items rows.second.items rows.third.items rows.fourth.items, rows.first.ok.0, c.deref.ensures.len)

pub returns-clause-bits : goal.returns-clause-bits
returns-clause-bits c =
    let a = c.args in
    let p = c.deref.result.now in
    let q = c.deref-2.result.now in
    let r = c.deref-3.result.now in
    let s = c.deref-4.result.now in
    let view : sets_of p q r s ≡ a.self.now = rw (c.deref.ensures.value, c.deref-2.ensures.value, c.deref-3.ensures.value, c.deref-4.ensures.value) c.self.view_is in
    let long : length p ≡ length a.self.now = sym (length-sets_of p q r s) ∙ ap length view in
    fits-from_columns a.set.now a.self.now c.fill_row.new.row
    (λ j low.
    let inside : j < length p = omega (arith, low, long) in
    test-is_disjoint _ a.set.now _ (row_tells c.words.result p q r s a.set.now a.self.now _ j a.set.now c.words.ensures.words c.words.ensures.slots view inside (c.fill_row.ensures.columns j inside)))
    (λ j past. row_ends c.fill_row.new.row (length a.self.now) j past (omega (arith, c.requires, c.fill_row.auto.row)) (λ j past inside. c.fill_row.ensures.rest j (omega (arith, long)) inside))
