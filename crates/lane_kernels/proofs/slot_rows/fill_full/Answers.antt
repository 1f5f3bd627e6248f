use Rattle.std.proofs.Common.{◌∙◌}
use Rattle.lane_kernels.proofs.Rows.{IsFullRow-from_fits}
use Rattle.lane_kernels.proofs.slot_rows.fill_full.Goals as goal

pub returns : goal.returns
returns c = IsFullRow-from_fits c.empty.result c.args.planes.now c.disjoint_row.new.row c.disjoint_row.ensures.bits c.empty.ensures (c.disjoint_row.ensures.len ∙ c.requires)
