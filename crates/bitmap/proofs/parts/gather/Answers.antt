use Rattle.bitmap.proofs.MovedParts.{gather-above, gather-below, gather-last}
use Rattle.bitmap.proofs.parts.gather.Goals as goal

pub returns-clause-below : goal.returns-clause-below
returns-clause-below c =
    gather-below c.args.part.now c.below-low.result c.minus-high.result c.minus.result c.args.limit c.below-low.ensures c.minus-high.ensures c.minus.ensures
    c.minus-2.result c.union.result c.union.ensures c.down.result c.args.after.now c.minus-2.ensures c.down.ensures.last c.down.ensures.others

pub returns-clause-above : goal.returns-clause-above
returns-clause-above c =
    gather-above c.args.part.now c.below-low.result c.minus-high.result c.minus.result c.args.limit c.below-low.ensures c.minus-high.ensures c.minus.ensures
    c.minus-2.result c.union.result c.union.ensures c.down.result c.args.after.now c.minus-2.ensures c.down.ensures.last c.down.ensures.others

pub returns-clause-last : goal.returns-clause-last
returns-clause-last c =
    gather-last c.args.part.now c.below-low.result c.minus-high.result c.minus.result c.args.limit c.below-low.ensures c.minus-high.ensures c.minus.ensures
    c.minus-2.result c.union.result c.union.ensures c.down.result c.args.after.now c.minus-2.ensures c.down.ensures.last c.down.ensures.others
