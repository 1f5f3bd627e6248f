use Rattle.std.proofs.Common.{◌∙◌, ap, sym, length}
use Rattle.lane_kernels.specs.Rows.{padded, width_of}
use Rattle.lane_kernels.proofs.Columns.{length-sets_of}
use Rattle.lane_kernels.proofs.planes.Planes.slot_words.Goals as goal

pub returns : goal.returns
returns c =
    let rows = c.self.inside in
    c.padded.ensures
    ∙ ap (λ n. padded (width_of n)) (c.len.ensures ∙ rows.first.ok.0 ∙ sym (length-sets_of rows.first.items rows.second.items rows.third.items rows.fourth.items) ∙ ap length c.self.view_is)
