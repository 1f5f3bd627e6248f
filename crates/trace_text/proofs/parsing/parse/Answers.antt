use Rattle.trace_text.proofs.Exclusion.{spelled_is_read}
use Rattle.trace_text.proofs.parsing.parse.Goals as goal

pub returns-clause-read : goal.returns-clause-read
returns-clause-read c = λ h lines spelled. spelled_is_read c.args.text.now h lines c.trace_of.result spelled c.trace_of.ensures.trace c.trace_of.ensures.fault
