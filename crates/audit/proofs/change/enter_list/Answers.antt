use Rattle.std.proofs.Common.{rules}
use Rattle.audit.proofs.Entered.{front_more, front_unknown}
use Rattle.audit.proofs.change.enter_list.Goals as goal

pub returns-then-not-enter-clause-entered : goal.returns-then-not-enter-clause-entered
returns-then-not-enter-clause-entered c before are = search (rules, front_unknown)

pub loop-i-preserved : goal.loop-i-preserved
loop-i-preserved c = search (rules, front_more)
