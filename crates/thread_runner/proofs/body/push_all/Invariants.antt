use Rattle.thread_runner.proofs.Names.{◌≡◌, ◌++◌, take, flat_map, diary_lines}
use Rattle.thread_runner.proofs.body.push_all.Given as goal

-- the replies so far
abbrev pub invariant-loop-diary : goal.invariant-loop-diary
invariant-loop-diary l = l.replies.items ≡ l.initial.replies.items ++ flat_map diary_lines (take l.diary-index l.diaries)
