use Rattle.std.proofs.Common.{◌≡◌, ◌-◌, ◌≤◌, drop, length, take}
use Rattle.std.specs.List.{filter}
use Rattle.shard.specs.Trims.{changed_from, is_idle, trimmed}
use Rattle.shard.proofs.shard.trimming.trim_each.Given as goal

abbrev pub invariant-loop-index : goal.invariant-loop-index
invariant-loop-index g l = record {
  behind : l.from ≤ l.index;
  within : l.index - l.from ≤ l.end - l.from;
  items : l.groups.items ≡ changed_from trimmed l.from (l.index - l.from) l.fn.groups.items;
  capacity : l.groups.room ≡ l.fn.groups.room;
  pages : l.pages ≡ length (filter is_idle (take (l.index - l.from) (drop l.from l.fn.groups.items)));
  most : l.pages ≤ l.index;
}
