use Rattle.thread_runner.proofs.replay.replay.Given as goal

-- the brand is of the trace that was read
abbrev pub ghosts-replay_at : goal.ghosts-replay_at
ghosts-replay_at g a = record { lines = a.trace.now.lines.items; shown = a.shown; table = a.arena.table }
