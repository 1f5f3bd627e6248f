use Rattle.bitmap.proofs.MovedParts.{spread-above, spread-below, spread-this}
use Rattle.bitmap.proofs.parts.spread.Goals as goal

pub returns-clause-below : goal.returns-clause-below
returns-clause-below c =
    spread-below c.args.part.now c.below.result c.minus-high.result c.minus.result c.args.limit c.below.ensures c.minus-high.ensures c.minus.ensures
    c.up.result c.union.result c.union.ensures c.args.before.now c.requires.alone c.up.ensures.first c.up.ensures.others c.requires.within

pub returns-clause-this : goal.returns-clause-this
returns-clause-this c =
    spread-this c.args.part.now c.below.result c.minus-high.result c.minus.result c.args.limit c.below.ensures c.minus-high.ensures c.minus.ensures
    c.up.result c.union.result c.union.ensures c.args.before.now c.requires.alone c.up.ensures.first c.up.ensures.others

pub returns-clause-above : goal.returns-clause-above
returns-clause-above c =
    spread-above c.args.part.now c.below.result c.minus-high.result c.minus.result c.args.limit c.below.ensures c.minus-high.ensures c.minus.ensures
    c.up.result c.union.result c.union.ensures c.args.before.now c.requires.alone c.up.ensures.first c.up.ensures.others
