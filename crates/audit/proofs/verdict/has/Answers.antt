use Rattle.std.proofs.Common.{arith}
use Rattle.audit.proofs.verdict.has.Goals as goal

pub returns-clause-no : goal.returns-clause-no
returns-clause-no c is has = c.loop-other.invariant has.0 (omega (arith, has.1, c.loop-other-test.false)) has.2
