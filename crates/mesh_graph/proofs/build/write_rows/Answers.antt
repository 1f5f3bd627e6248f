use Rattle.std.proofs.Common.{◌≡◌, ◌∙◌, ◌*◌, arith, length, subst, take}
use Rattle.lane_kernels.specs.Rows.{width_of}
use Rattle.mesh_graph.specs.Rows.{HaveRows}
use Rattle.mesh_graph.proofs.Building.{rows-all, rows-next}
use Rattle.mesh_graph.proofs.build.write_rows.Goals as goal

pub loop-i-preserved : goal.loop-i-preserved
loop-i-preserved c = (
  c.write_row_at.ensures.len ∙ c.loop-i.invariant.0,
  rows-next c.args.run.now c.args.sets.now c.args.masks.now c.loop-i.i c.index-run-i.result c.loop-i.rows c.write_row_at.new.rows c.loop-i.invariant.1
      c.loop-i-test.true c.index-run-i.is c.write_row_at.ensures.earlier c.write_row_at.ensures.wide c.write_row_at.ensures.bits,
)

pub returns-clause-rows : goal.returns-clause-rows
returns-clause-rows c =
    let W = width_of (length c.args.sets.now) in
    let end : c.loop-i.i ≡ length c.args.run.now = omega (arith, c.loop-i-test.false, c.loop-i.auto.i-end) in
    rows-all c.args.run.now c.args.sets.now c.args.masks.now (length c.args.run.now) c.loop-i.rows
    (subst (λ n. HaveRows c.args.run.now c.args.sets.now c.args.masks.now n (take (W * n) c.loop-i.rows)) end c.loop-i.invariant.1) (c.loop-i.invariant.0 ∙ c.requires.rows)
