use Rattle.trace_runner.proofs.Names.{◌≡◌, ◌++◌, take, flat_map, id_word}
use Rattle.trace_runner.proofs.writing.plans.push_id_words.Given as goal

-- the lines so far
abbrev pub invariant-loop-id : goal.invariant-loop-id
invariant-loop-id l = l.out.items ≡ l.initial.out.items ++ flat_map id_word (take l.id-index l.ids)
