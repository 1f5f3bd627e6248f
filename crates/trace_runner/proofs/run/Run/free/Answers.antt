use Rattle.trace_runner.proofs.run.Run.free.Goals as goal

pub returns-in-Some-clause-made : goal.returns-in-Some-clause-made
returns-in-Some-clause-made c = rw c.in-Some.is c.free_key.ensures.made

pub returns-in-None-clause-made : goal.returns-in-None-clause-made
returns-in-None-clause-made c = rw c.in-None.is c.skip.ensures.made
