use Rattle.thread_runner.proofs.Names.{◌≡◌, ◌++◌, drop, take, flat_map, kept_receipts, lineless}
use Rattle.thread_runner.proofs.diary.push_all_lineless.Given as goal

-- the replies so far
abbrev pub invariant-loop-i : goal.invariant-loop-i
invariant-loop-i l = l.replies.items ≡ l.initial.replies.items ++ flat_map lineless (take l.i (drop l.first (kept_receipts l.receipts)))
