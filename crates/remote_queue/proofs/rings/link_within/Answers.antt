use Rattle.std.proofs.Common.{rules, arith, sym, ap, ◌∙◌, map, ◌≡◌, vec_len}
use Rattle.std.proofs.lemmas.List.{length-map}
use Rattle.std.proofs.lemmas.List.Elements.{All-push}
use Rattle.remote_queue.specs.Rings.{AreFreshOutboxes}
use Rattle.remote_queue.proofs.Tables.{none_linked, link_step, mapped_more, all_long}
use Rattle.remote_queue.proofs.rings.link_within.Goals as goal

pub loop-init : goal.loop-init
loop-init c = record {
  len = search rules;
  room = search rules;
  wide = search rules;
  long = c.in_ok-inboxes.ensures.long;
  rings = none_linked _ _ (ap (map (λ v. map (λ o. o.ring) v.items)) c.in_ok-outboxes.ensures.items) c.in_ok-inboxes.ensures.long;
  even = rw c.in_ok-outboxes.ensures.items (λ k d h. absurd (omega arith));
  unsent = rw c.in_ok-outboxes.ensures.items (λ k d h. absurd (omega arith));
  untaken = c.in_ok-inboxes.ensures.untaken;
}

pub loop-preserved : goal.loop-preserved
loop-preserved c =
    let inv = c.loop.invariant in
    let more = mapped_more (λ v. map (λ o. o.ring) v.items) _ _ _ c.push_reserved.ensures.items in
    let step = link_step _ _ _ _ _ c.loop.counter more c.in_ok-row.ensures.rings
    (omega (arith, length-map c.in_ok-row.row.items (λ o. o.ring), length-map c.loop.inboxes.items (λ c. map (λ i. i.ring) c.items), c.in_ok-row.ensures.len))
    (omega (arith, length-map c.loop.outboxes.items (λ v. map (λ o. o.ring) v.items))) inv.long inv.rings in
    record {
      len = search rules;
      room = search rules;
      wide = search rules;
      long = step.0;
      rings = step.1;
      even = rw c.push_reserved.ensures.items (All-push (λ v. vec_len v ≡ c.args.shards) c.loop.outboxes.items _ inv.even (search rules));
      unsent = rw c.push_reserved.ensures.items (All-push (λ v. AreFreshOutboxes c.args.capacity v.items) c.loop.outboxes.items _ inv.unsent c.in_ok-row.ensures.unsent);
      untaken = c.in_ok-row.ensures.untaken;
    }

pub returns : goal.returns
returns c =
    let inv = c.loop.invariant in
    let workers : vec_len c.loop.outboxes ≡ c.args.workers = search rules in
    record {
      workers_are = omega (arith, workers, c.loop.outboxes.ok.0);
      shards_are = omega (arith, inv.wide, c.loop.inboxes.ok.0);
      rows_are_long = inv.even;
      columns_are_long = all_long (λ v. map (λ i. i.ring) v.items) vec_len c.loop.inboxes.items c.args.workers (λ v. length-map v.items (λ i. i.ring) ∙ sym v.ok.0) (search rules);
      rings_are = inv.rings;
      unsent = inv.unsent;
      untaken = inv.untaken;
    }
