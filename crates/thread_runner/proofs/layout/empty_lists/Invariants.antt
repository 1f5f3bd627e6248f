use Rattle.thread_runner.proofs.Names.{[], map, vec_items, AreLaid}
use Rattle.thread_runner.proofs.layout.empty_lists.Given as goal

abbrev pub invariant-loop : goal.invariant-loop
invariant-loop l = AreLaid [] (map vec_items l.lists.items)
