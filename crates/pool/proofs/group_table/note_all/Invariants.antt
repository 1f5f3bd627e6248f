use Rattle.std.proofs.Common.{◌≤◌, length, take}
use Rattle.pool.specs.Noted.{AreNoted}
use Rattle.pool.proofs.group_table.note_all.Given as goal

abbrev pub invariant-loop-group : goal.invariant-loop-group
invariant-loop-group g l = record {
  noted : AreNoted (take l.group-index l.groups) l.paged.ranks;
  few : length l.paged.ranks ≤ l.group-index;
  capacity : l.fn.paged.capacity ≤ l.paged.capacity;
}
