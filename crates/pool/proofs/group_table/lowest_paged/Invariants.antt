use Rattle.std.proofs.Common.{◌≡◌, ◌≤◌, length}
use Rattle.pool.specs.Noted.{AreNoted}
use Rattle.pool.proofs.group_table.lowest_paged.Given as goal

abbrev pub invariant-loop-rank : goal.invariant-loop-rank
invariant-loop-rank g l = record {
  noted : AreNoted l.row l.paged.ranks;
  fewer : length l.paged.ranks ≤ length l.fn.paged.ranks;
  capacity : l.paged.capacity ≡ l.fn.paged.capacity;
}

abbrev pub decreases-loop-rank : goal.decreases-loop-rank
decreases-loop-rank g l = length l.paged.ranks
