use Rattle.std.proofs.Common.{◌∙◌, sym, arith}
use Rattle.bitmap.proofs.InParts.{contains-past}
use Rattle.bitmap.proofs.MovedParts.{none-before, none-found}
use Rattle.bitmap.proofs.parts.end_of.Goals as goal

pub loop-end-init : goal.loop-end-init
loop-end-init c = (
  λ n large. contains-past c.args.parts.now.items n (omega (arith, large, c.len-end.ensures, c.args.parts.now.ok.0)),
  omega (arith, c.requires, c.len-end.ensures),
  omega (arith, c.len-end.ensures),
)

pub loop-end-preserved : goal.loop-end-preserved
loop-end-preserved c = (
  none-before c.args.parts.now.items c.loop-end.end c.index.result.now (omega (arith, c.loop-end-test.true))
      (omega (arith, c.loop-end.invariant.2, c.args.parts.now.ok.0)) c.loop-end.invariant.0 c.index.ensures
      (none-found _ _ (sym c.is_some.ensures ∙ c.if-is_some.false) c.lowest.ensures.lowest),
  omega (arith, c.loop-end-test.true),
  omega (arith, c.loop-end.invariant.2),
)
