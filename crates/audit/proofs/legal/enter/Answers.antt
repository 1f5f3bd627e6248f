use Rattle.std.proofs.Common.{rules}
use Rattle.audit.proofs.Legality.{AreAfter-more, AreIssued-more}
use Rattle.audit.proofs.legal.enter.Goals as goal

pub returns-clause-held : goal.returns-clause-held
returns-clause-held c before after = search (rules, AreAfter-more)

pub returns-clause-issued : goal.returns-clause-issued
returns-clause-issued c before gens issued legal = search (rules, AreIssued-more)
