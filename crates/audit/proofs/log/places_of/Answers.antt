use Rattle.std.proofs.Common.{arith}
use Rattle.audit.proofs.LogTable.{ArePlaces-all}
use Rattle.audit.proofs.log.places_of.Goals as goal

pub returns : goal.returns
returns c = ArePlaces-all c.args.logs.now c.loop-log.log c.loop-log.places.items c.loop-log.invariant.first (omega (arith, c.loop-log-test.false, c.loop-log.auto.log-end))
