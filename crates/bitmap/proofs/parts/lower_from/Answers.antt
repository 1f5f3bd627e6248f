use Rattle.std.proofs.Common.{arith, rules}
use Rattle.bitmap.proofs.MovedParts.{IsLowered-next, IsLowered-start, lowered_above}
use Rattle.bitmap.proofs.parts.lower_from.Goals as goal

pub loop-part-init : goal.loop-part-init
loop-part-init c = search (rules, IsLowered-start)

pub loop-part-preserved : goal.loop-part-preserved
loop-part-preserved c = (
  c.loop-part.invariant.0,
  IsLowered-next c.args.parts.now.items c.args.from c.loop-part.parts.items c.loop-part.part
      (omega (arith, c.loop-part-test.true, c.requires.within, c.loop-part.invariant.0, c.args.parts.now.ok.0, c.loop-part.parts.ok.0)) c.loop-part.invariant.1
      c.part_at-after.result c.index.result.now c.down.result c.index.ensures c.part_at-after.ensures c.down.ensures.last c.down.ensures.others,
)

pub returns-clause-above : goal.returns-clause-above
returns-clause-above c = lowered_above c.args.parts.now.items c.loop-part.parts.items c.args.from c.loop-part.part c.args.end c.requires.none
    (omega (arith, c.loop-part-test.false)) c.loop-part.invariant.1
