use Rattle.lane_kernels.proofs.Blocks.{block-step}
use Rattle.lane_kernels.proofs.by_slots.block_of.Goals as goal

pub loop-k-preserved : goal.loop-k-preserved
loop-k-preserved c =
    let a = c.args in
    let l = c.loop-k in (
      c.add_rows-block.ensures.len,
      λ i b low small. block-step a.words.now a.rows.now a.width a.at i b l.k l.block c.add_rows-block.result (l.invariant.1 i b low small) (c.add_rows-block.ensures.bits i b low small),
    )
