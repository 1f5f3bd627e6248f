use Rattle.thread_runner.proofs.Names.{◌≡◌, take, keys_in, AreFirsts}
use Rattle.thread_runner.proofs.layout.firsts_of.Given as goal

-- the numbers of the lines so far, and how many keys they bind
abbrev pub invariant-loop-place : goal.invariant-loop-place
invariant-loop-place l = record {
  firsts : AreFirsts l.lines.items l.firsts.items;
  count : l.count ≡ keys_in (take l.place l.lines.items);
}
