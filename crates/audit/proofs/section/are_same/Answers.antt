use Rattle.std.proofs.Common.{arith}
use Rattle.audit.proofs.Rows.{all_same}
use Rattle.audit.proofs.section.are_same.Goals as goal

pub returns : goal.returns
returns c so = all_same c.args.sections.now c.args.section (λ k less. c.loop-other.invariant k (omega (arith, less, c.loop-other-test.false)))
