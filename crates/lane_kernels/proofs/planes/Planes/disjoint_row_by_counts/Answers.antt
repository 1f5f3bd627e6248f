use Rattle.std.proofs.Common.{◌≡◌, ◌<◌, ◌∙◌, ap, sym, arith, length, get_or}
use Rattle.std.specs.FinSet.{len}
use Rattle.lane_kernels.specs.Planes.{sets_of}
use Rattle.lane_kernels.proofs.Columns.{get_or-sets_of, length-sets_of, row_ends, row_tells}
use Rattle.lane_kernels.proofs.Rows.{fits-from_columns, test-is_disjoint}
use Rattle.lane_kernels.proofs.planes.Planes.disjoint_row_by_counts.Goals as goal

pub fill_row_by_counts-requires-clause-row : goal.fill_row_by_counts-requires-clause-row
fill_row_by_counts-requires-clause-row c =
    let rows = c.self.inside in
    let long : length (sets_of rows.first.items rows.second.items rows.third.items rows.fourth.items) ≡ length c.args.self.now = ap length c.self.view_is in
    omega (arith, c.requires.row, long, length-sets_of rows.first.items rows.second.items rows.third.items rows.fourth.items, rows.first.ok.0, c.deref.ensures.len)

pub returns-clause-bits : goal.returns-clause-bits
returns-clause-bits c =
    let a = c.args in
    let p = c.deref.result.now in
    let q = c.deref-2.result.now in
    let r = c.deref-3.result.now in
    let s = c.deref-4.result.now in
    let view : sets_of p q r s ≡ a.self.now = rw (c.deref.ensures.value, c.deref-2.ensures.value, c.deref-3.ensures.value, c.deref-4.ensures.value) c.self.view_is in
    let long : length p ≡ length a.self.now = sym (length-sets_of p q r s) ∙ ap length view in
    fits-from_columns a.set.now a.self.now c.fill_row_by_counts.new.row
    (λ j low.
    let inside : j < length p = omega (arith, low, long) in
    test-is_disjoint _ a.set.now _ (row_tells c.words.result p q r s a.set.now a.self.now _ j a.set.now c.words.ensures.words c.words.ensures.slots view inside
    (c.fill_row_by_counts.ensures.columns j inside)))
    (λ j past. row_ends c.fill_row_by_counts.new.row (length a.self.now) j past (omega (arith, c.requires.row, c.fill_row_by_counts.auto.row))
    (λ j past inside. c.fill_row_by_counts.ensures.rest j (omega (arith, long)) inside))

pub fill_row_by_counts-requires-clause-fewest : goal.fill_row_by_counts-requires-clause-fewest
fill_row_by_counts-requires-clause-fewest c = λ j inside.
    let p = c.deref.result.now in
    let q = c.deref-2.result.now in
    let r = c.deref-3.result.now in
    let s = c.deref-4.result.now in
    let view : sets_of p q r s ≡ c.args.self.now = rw (c.deref.ensures.value, c.deref-2.ensures.value, c.deref-3.ensures.value, c.deref-4.ensures.value) c.self.view_is in
    let long : length p ≡ length c.args.self.now = sym (length-sets_of p q r s) ∙ ap length view in
    let here = get_or-sets_of p q r s j c.args.set.now inside in
    let same = ap (λ l. len (get_or l j c.args.set.now)) view in
    let few = c.requires.fewest.each j c.args.set.now (omega (arith, inside, long)) in
    omega (arith, few, same, ap len here)
