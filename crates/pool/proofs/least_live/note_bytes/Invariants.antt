use Rattle.std.proofs.Common.{◌≡◌, length, take, vec_capacity}
use Rattle.groups.specs.Least.{IsLeast, KnowsLeast}
use Rattle.pool.proofs.least_live.note_bytes.Given as goal

abbrev pub invariant-loop-group : goal.invariant-loop-group
invariant-loop-group g l = record {
  known : KnowsLeast IsLeast (take l.group-index l.groups) l.least.items;
  len : length l.least.items ≡ l.group-index;
  capacity : vec_capacity l.least ≡ vec_capacity l.fn.least;
}
