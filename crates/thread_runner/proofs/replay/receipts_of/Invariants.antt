use Rattle.thread_runner.proofs.Names.{kept_receipts, ◌≡◌, map, Diary}
use Rattle.thread_runner.proofs.replay.receipts_of.Given as goal

-- the lists so far
abbrev pub invariant-loop-diary : goal.invariant-loop-diary
invariant-loop-diary l = map kept_receipts l.receipts.items ≡ map (λ (d : Diary). (kept_receipts d.receipts)) l.yielded
