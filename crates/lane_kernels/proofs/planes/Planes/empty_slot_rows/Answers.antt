use Rattle.std.proofs.Common.{◌≡◌, ◌∙◌, ap, sym, length}
use Rattle.lane_kernels.proofs.Columns.{length-sets_of}
use Rattle.lane_kernels.proofs.planes.Planes.empty_slot_rows.Goals as goal

pub returns : goal.returns
returns c =
    let rows = c.self.inside in
    let long : length c.deref.result.now ≡ length c.args.self.now =
    ap length c.deref.ensures.value ∙ sym (length-sets_of rows.first.items rows.second.items rows.third.items rows.fourth.items) ∙ ap length c.self.view_is in
    rw (← long) c.empty_rows.ensures
