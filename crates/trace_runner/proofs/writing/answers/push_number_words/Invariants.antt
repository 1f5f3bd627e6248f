use Rattle.trace_runner.proofs.Names.{◌≡◌, ◌++◌, take, flat_map, number_word}
use Rattle.trace_runner.proofs.writing.answers.push_number_words.Given as goal

-- the words so far
abbrev pub invariant-loop-number : goal.invariant-loop-number
invariant-loop-number l = l.out.items ≡ l.initial.out.items ++ flat_map number_word (take l.number-index l.numbers)
