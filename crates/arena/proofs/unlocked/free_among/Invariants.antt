use Rattle.std.proofs.Common.{◌≡◌, length}
use Rattle.arena.specs.SpanCounts.{spans_of_all}
use Rattle.arena.proofs.unlocked.free_among.Given as goal

abbrev pub invariant-loop-number : goal.invariant-loop-number
invariant-loop-number l = record {
  len : length l.shards ≡ length l.fn.shards;
  spans : spans_of_all l.shards ≡ spans_of_all l.fn.shards;
}
