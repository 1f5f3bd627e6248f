use Rattle.std.proofs.Common.{◌≡◌, ap, arith, length}
use Rattle.lane_kernels.specs.Planes.{sets_of}
use Rattle.lane_kernels.proofs.Columns.{counts_are, length-sets_of}
use Rattle.lane_kernels.proofs.planes.Planes.count_all.Goals as goal

pub count_columns-requires-clause-counts : goal.count_columns-requires-clause-counts
count_columns-requires-clause-counts c =
    let rows = c.self.inside in
    let long : length (sets_of rows.first.items rows.second.items rows.third.items rows.fourth.items) ≡ length c.args.self.now = ap length c.self.view_is in
    omega (arith, c.requires, long, length-sets_of rows.first.items rows.second.items rows.third.items rows.fourth.items, rows.first.ok.0, c.deref.ensures.len)

pub returns : goal.returns
returns c =
    let view : sets_of c.deref.result.now c.deref-2.result.now c.deref-3.result.now c.deref-4.result.now
    ≡ c.args.self.now = rw (c.deref.ensures.value, c.deref-2.ensures.value, c.deref-3.ensures.value, c.deref-4.ensures.value) c.self.view_is in
    counts_are c.deref.result.now c.deref-2.result.now c.deref-3.result.now c.deref-4.result.now c.args.self.now c.count_columns.new.counts view
    c.count_columns.ensures.len c.count_columns.ensures.each
