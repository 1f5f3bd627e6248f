use Rattle.thread_runner.proofs.Names.{◌≡◌, map, take, span_of_log, live_count}
use Rattle.thread_runner.proofs.live.live_in.Given as goal

-- the live keys so far
abbrev pub invariant-loop-log : goal.invariant-loop-log
invariant-loop-log l = l.live ≡ live_count (map span_of_log (take l.log-index l.logs))
