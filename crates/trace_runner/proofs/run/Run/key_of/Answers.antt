use Rattle.trace_runner.proofs.Names.{key_of}
use Rattle.trace_runner.proofs.run.Run.key_of.Goals as goal

pub returns-clause-found : goal.returns-clause-found
returns-clause-found c done finds = c.key.ensures.found (key_of c.args.self.now.trace.now.lines.items done c.args.reference.now) (rw c.unwrap_or.ensures finds)
