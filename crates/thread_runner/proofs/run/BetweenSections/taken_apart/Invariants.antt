use Rattle.thread_runner.proofs.run.BetweenSections.taken_apart.Given as goal

-- all that is kept
abbrev pub ghosts-parts : goal.ghosts-parts
ghosts-parts g a = record { kept = a.self.keys.kept.items; section = a.self.sections_run }
