use Rattle.thread_runner.proofs.run.BetweenSections.parts.Goals as goal

pub begun-requires-clause-rest : goal.begun-requires-clause-rest
begun-requires-clause-rest g c κs within = rw (← c.requires.kept, ← c.requires.section) c.args.self.rest
