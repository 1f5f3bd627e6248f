use Rattle.std.proofs.Common.{◌≡◌, ◌<◌, ℕ, Some, length, slice_get}
use Rattle.shard.specs.Row.{IsOrder, in_order}
use Rattle.shard.proofs.group_row.line_up.Given as goal

abbrev pub invariant-loop-index : goal.invariant-loop-index
invariant-loop-index g l = record {
  order : IsOrder (length l.groups.items) l.order.items;
  same : in_order l.groups.items l.order.items ≡ in_order l.fn.groups.items l.fn.order.items;
  many : length l.order.items ≡ length l.fn.order.items;
  own : (at place : ℕ) → at < l.index → slice_get l.order.items at ≡ Some place → place ≡ at;
}
