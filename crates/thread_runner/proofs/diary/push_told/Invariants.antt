use Rattle.thread_runner.proofs.Names.{◌≡◌, ◌≤◌, ◌++◌, drop, length, kept_receipts, told_lines}
use Rattle.thread_runner.proofs.diary.push_told.Given as goal

-- what is added and what is left make the whole
abbrev pub invariant-loop-entry : goal.invariant-loop-entry
invariant-loop-entry l =
    (l.place ≤ length (kept_receipts l.receipts))
    × (l.replies.items ++ told_lines (drop l.entry-index l.entries) (drop l.place (kept_receipts l.receipts)) ≡ l.fn.replies.items ++ told_lines l.entries (kept_receipts l.receipts))
