use Rattle.std.proofs.Common.{arith, rules}
use Rattle.bitmap.proofs.MovedParts.{IsBefore-next, IsBefore-start, IsRaised-next, IsRaised-start}
use Rattle.bitmap.proofs.parts.raise_from.Goals as goal

pub loop-part-init : goal.loop-part-init
loop-part-init c = search (rules, IsRaised-start, IsBefore-start)

pub loop-part-preserved : goal.loop-part-preserved
loop-part-preserved c = (
  c.loop-part.invariant.0,
  IsRaised-next c.args.parts.now.items c.args.from c.args.before c.loop-part.parts.items c.loop-part.part
      (omega (arith, c.loop-part-test.true, c.requires.within, c.loop-part.invariant.0, c.args.parts.now.ok.0, c.loop-part.parts.ok.0)) c.loop-part.invariant.1
      c.loop-part.before c.loop-part.invariant.2 c.index.result.now c.up.result c.index.ensures c.up.ensures.first c.up.ensures.others,
  IsBefore-next c.args.parts.now.items c.args.from c.args.before c.loop-part.parts.items c.loop-part.part
      (omega (arith, c.loop-part-test.true, c.requires.within, c.loop-part.invariant.0, c.args.parts.now.ok.0, c.loop-part.parts.ok.0)) c.loop-part.invariant.1
      c.loop-part.before c.loop-part.invariant.2 c.index.result.now c.up.result c.index.ensures c.up.ensures.first c.up.ensures.others,
)
