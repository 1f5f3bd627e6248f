use Rattle.std.proofs.Common.{rules}
use Rattle.span.proofs.KeptWords.{length-changes_in}
use Rattle.span.proofs.log.KeptLog.len.Goals as goal

pub returns : goal.returns
returns c = search (rules, length-changes_in)
