use Rattle.trace_runner.proofs.Names.{◌≡◌, ◌++◌, take, flat_map, answer_line}
use Rattle.trace_runner.proofs.writing.answers.push_answers.Given as goal

-- the lines so far
abbrev pub invariant-loop-answer : goal.invariant-loop-answer
invariant-loop-answer l = l.out.items ≡ l.initial.out.items ++ flat_map answer_line (take l.answer-index l.answers)
