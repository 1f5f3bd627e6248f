use Rattle.trace_runner.proofs.Names.{◌≡◌, ◌++◌, take, flat_map, step_line}
use Rattle.trace_runner.proofs.writing.plans.push_steps.Given as goal

-- the lines so far
abbrev pub invariant-loop-step : goal.invariant-loop-step
invariant-loop-step l = l.out.items ≡ l.initial.out.items ++ flat_map step_line (take l.step-index l.steps)
