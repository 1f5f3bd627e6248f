use Rattle.std.proofs.Common.{rules}
use Rattle.span.proofs.KeptWords.{length-changes_in}
use Rattle.span.proofs.log.KeptLog.reserve_set.Goals as goal

pub returns-clause-few : goal.returns-clause-few
returns-clause-few c = search (rules, length-changes_in)
