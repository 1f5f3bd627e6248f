use Rattle.thread_runner.proofs.Names.{◌≡◌, ◌+◌, drop, count_above}
use Rattle.thread_runner.proofs.body.count_above.Given as goal

-- all so far are above the line, and what is left makes the whole
abbrev pub invariant-loop-reply : goal.invariant-loop-reply
invariant-loop-reply l = record {
  count : l.count ≡ l.reply-index;
  whole : count_above l.line l.replies ≡ l.count + count_above l.line (drop l.reply-index l.replies);
}
