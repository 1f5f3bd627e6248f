use Rattle.std.proofs.Common.{◌+◌, ◌*◌, length, w64}
use Rattle.std.specs.Int.{trailing_zeros}
use Rattle.lane_kernels.proofs.Blocks.{both-either, length-added, lowest-lt, row-within, rows-step, without_lowest-lt}
use Rattle.lane_kernels.proofs.by_slots.add_rows.Goals as goal

pub block_at-block-requires : goal.block_at-block-requires
block_at-block-requires c =
    let a = c.args in
    let l = c.loop-left in
    row-within a.width (trailing_zeros w64 l.left) a.first (length a.rows.now) (lowest-lt l.left c.loop-left-test.true l.auto.left-fits.fits) c.requires.rows

pub loop-left-smaller : goal.loop-left-smaller
loop-left-smaller c = without_lowest-lt c.loop-left.left c.loop-left-test.true c.loop-left.auto.left-fits.fits

pub loop-left-preserved : goal.loop-left-preserved
loop-left-preserved c =
    let a = c.args in
    let l = c.loop-left in
    let room = row-within a.width (trailing_zeros w64 l.left) a.first (length a.rows.now) (lowest-lt l.left c.loop-left-test.true l.auto.left-fits.fits) c.requires.rows in
    rw (c.block_at-block.ensures) (
      length-added l.block a.rows.now (a.first + a.width * trailing_zeros w64 l.left) l.invariant.0 room,
      λ i b low small. both-either (rows-step l.left a.first a.width i b l.block a.rows.now c.loop-left-test.true l.auto.left-fits.fits l.invariant.0 room low) (l.invariant.1 i b low small),
    )
