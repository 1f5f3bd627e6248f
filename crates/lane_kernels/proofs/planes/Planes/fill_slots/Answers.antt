use Rattle.std.proofs.Common.{◌≡◌, ◌∙◌, ◌*◌, ap, sym, length}
use Rattle.lane_kernels.specs.Planes.{sets_of}
use Rattle.lane_kernels.specs.Rows.{padded, width_of}
use Rattle.lane_kernels.proofs.Columns.{length-sets_of}
use Rattle.lane_kernels.proofs.Rows.{HaveSlots-from_bits}
use Rattle.lane_kernels.proofs.planes.Planes.fill_slots.Goals as goal

pub returns-clause-rows : goal.returns-clause-rows
returns-clause-rows c =
    let view : sets_of c.deref.result.now c.deref-2.result.now c.deref-3.result.now c.deref-4.result.now
    ≡ c.args.self.now = rw (c.deref.ensures.value, c.deref-2.ensures.value, c.deref-3.ensures.value, c.deref-4.ensures.value) c.self.view_is in
    HaveSlots-from_bits c.deref.result.now c.deref-2.result.now c.deref-3.result.now c.deref-4.result.now c.args.self.now c.args.first c.args.count c.fill_slots.new.rows
    view c.requires.slots c.fill_slots.ensures.rows

pub fill_slots-requires-clause-rows : goal.fill_slots-requires-clause-rows
fill_slots-requires-clause-rows c =
    let rows = c.self.inside in
    let long : length c.args.self.now ≡ length c.deref.result.now =
    ap length (sym c.self.view_is) ∙ length-sets_of rows.first.items rows.second.items rows.third.items rows.fourth.items ∙ ap length (sym c.deref.ensures.value) in
    c.requires.rows ∙ ap (λ n. padded (width_of n) * c.args.count) long
