use Rattle.thread_runner.proofs.Names.{◌≡◌, take, sum_by, Diary}
use Rattle.thread_runner.proofs.replay.calls_of.Given as goal

-- the replies so far
abbrev pub invariant-loop-diary : goal.invariant-loop-diary
invariant-loop-diary l = l.calls ≡ sum_by (λ (d : Diary). d.calls) (take l.diary-index l.diaries)
