use Rattle.thread_runner.proofs.run.run_lines.Goals as goal

pub invariant_of-between : goal.invariant_of-between
invariant_of-between g c = record { reads = c.requires.lines; rest = c.in_ok-threads_in.ensures c.none.result.kept.items }
