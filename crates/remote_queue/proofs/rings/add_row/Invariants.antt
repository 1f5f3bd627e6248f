use Rattle.std.proofs.Common.{◌≡◌, ◌≤◌, map, All, vec_len, vec_capacity}
use Rattle.remote_queue.specs.Rings.{with_row, AreFreshInboxes, AreFreshOutboxes, inbox_rings}
use Rattle.remote_queue.proofs.rings.add_row.Given as goal

abbrev pub invariant-loop-shard : goal.invariant-loop-shard
invariant-loop-shard l = record {
  len : vec_len l.row ≡ l.shard;
  room : vec_len l.fn.columns ≤ vec_capacity l.row;
  wide : vec_len l.columns ≡ vec_len l.fn.columns;
  rings : inbox_rings l.columns.items ≡ with_row (inbox_rings l.fn.columns.items) (map (λ outbox. outbox.ring) l.row.items);
  unsent : AreFreshOutboxes l.capacity l.row.items;
  untaken : All (λ column. AreFreshInboxes column.items) l.columns.items;
}
