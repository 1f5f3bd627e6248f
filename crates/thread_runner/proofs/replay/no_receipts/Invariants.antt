use Rattle.thread_runner.proofs.Names.{◌≡◌, vec_len}
use Rattle.thread_runner.proofs.replay.no_receipts.Given as goal

abbrev pub invariant-loop : goal.invariant-loop
invariant-loop l = vec_len l.lists ≡ l.counter
