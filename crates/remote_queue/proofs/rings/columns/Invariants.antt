use Rattle.std.proofs.Common.{◌≡◌, ◌≤◌, All, vec_len, vec_capacity}
use Rattle.remote_queue.specs.Rings.{AreLong, AreFreshInboxes, inbox_rings}
use Rattle.remote_queue.proofs.rings.columns.Given as goal

abbrev pub invariant-loop : goal.invariant-loop
invariant-loop l = record {
  len : vec_len l.columns ≡ l.counter;
  room : l.fn.shards ≤ vec_capacity l.columns;
  long : AreLong 0 (inbox_rings l.columns.items);
  untaken : All (λ column. AreFreshInboxes column.items) l.columns.items;
}
