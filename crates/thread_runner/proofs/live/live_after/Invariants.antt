use Rattle.thread_runner.proofs.Names.{◌≡◌, take, kept_changes, live_slots}
use Rattle.thread_runner.proofs.live.live_after.Given as goal

-- the live slots so far
abbrev pub invariant-loop-place : goal.invariant-loop-place
invariant-loop-place l = l.live ≡ live_slots (take l.place (kept_changes l.log))
