use Rattle.trace_runner.proofs.Names.{◌≡◌, ◌++◌, take, flat_map, fold_line}
use Rattle.trace_runner.proofs.writing.plans.push_folds.Given as goal

-- the lines so far
abbrev pub invariant-loop-pair : goal.invariant-loop-pair
invariant-loop-pair l = l.out.items ≡ l.initial.out.items ++ flat_map fold_line (take l.pair-index l.pairs)
