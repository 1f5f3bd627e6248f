use Rattle.std.proofs.Common.{◌+◌, ◌≤◌, ◌∙◌, arith, length}
use Rattle.lane_kernels.specs.Rows.{padded}
use Rattle.lane_kernels.proofs.Blocks.{past-row, take_off-step}
use Rattle.lane_kernels.proofs.by_slots.take_off_all.Goals as goal

pub loop-at-preserved : goal.loop-at-preserved
loop-at-preserved c =
    let a = c.args in
    let l = c.loop-at in
    let t = c.take_off in
    let W = padded (length a.row.now) in
    let within : l.at + 16 ≤ W = omega (arith, l.invariant.0, l.invariant.1, c.loop-at-test.true) in (
      t.ensures.len ∙ l.invariant.0,
      omega (arith, l.invariant.1),
      omega (arith, l.invariant.0, l.invariant.1, t.ensures.len, c.loop-at-test.true),
      take_off-step a.set.now c.words-words.result a.rows.now c.block_of-block.result a.row.now l.row t.new.row W l.at l.invariant.1 within c.requires
          c.words-words.ensures.bits (rw (c.padded-width.ensures) at c.block_of-block.ensures.bits)
          l.invariant.0 t.ensures.len t.ensures.block t.ensures.before l.invariant.3 l.invariant.4,
      λ w from. t.ensures.after w from ∙ l.invariant.4 w (omega (arith, from)),
    )

pub returns-clause-bits : goal.returns-clause-bits
returns-clause-bits c = past-row c.args.set.now c.args.rows.now c.args.row.now c.loop-at.row (padded (length c.args.row.now)) c.loop-at.at c.loop-at.invariant.0
    (omega (arith, c.loop-at-test.false)) c.loop-at.invariant.3
