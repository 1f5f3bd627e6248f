use Rattle.std.proofs.Common.{◌+◌, ◌/◌, ◌∙◌, ap, sym, length}
use Rattle.lane_kernels.proofs.Columns.{length-sets_of}
use Rattle.lane_kernels.proofs.planes.Planes.row_words.Goals as goal

pub returns : goal.returns
returns c =
    let rows = c.self.inside in
    ap (λ n. (n + 63) / 64) (c.len.ensures ∙ rows.first.ok.0 ∙ sym (length-sets_of rows.first.items rows.second.items rows.third.items rows.fourth.items) ∙ ap length c.self.view_is)
