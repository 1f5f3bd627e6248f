use Rattle.std.proofs.Common.{◌≡◌, ◌≤◌, All, vec_len, vec_capacity}
use Rattle.remote_queue.specs.Rings.{AreLong, AreTransposed, AreFreshInboxes, AreFreshOutboxes, inbox_rings, outbox_rings}
use Rattle.remote_queue.proofs.rings.link_within.Given as goal

abbrev pub invariant-loop : goal.invariant-loop
invariant-loop l = record {
  len : vec_len l.outboxes ≡ l.counter;
  room : l.workers ≤ vec_capacity l.outboxes;
  wide : vec_len l.inboxes ≡ l.shards;
  long : AreLong l.counter (inbox_rings l.inboxes.items);
  rings : AreTransposed (outbox_rings l.outboxes.items) (inbox_rings l.inboxes.items);
  even : All (λ row. vec_len row ≡ l.shards) l.outboxes.items;
  unsent : All (λ row. AreFreshOutboxes l.capacity row.items) l.outboxes.items;
  untaken : All (λ column. AreFreshInboxes column.items) l.inboxes.items;
}
