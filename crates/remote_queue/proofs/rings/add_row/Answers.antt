use Rattle.std.proofs.Common.{rules, arith, sym, refl, ap, ◌∙◌, map, subst, All, [], ◌≡◌}
use Rattle.std.proofs.lemmas.List.{length-map}
use Rattle.std.proofs.lemmas.List.Elements.{All-push}
use Rattle.remote_queue.specs.Rings.{with_row, Sending, inbox_rings}
use Rattle.remote_queue.proofs.Tables.{with_no_row, row_step, mapped_more}
use Rattle.remote_queue.proofs.rings.add_row.Goals as goal

pub loop-shard-init : goal.loop-shard-init
loop-shard-init c =
    let none = c.in_ok-row.ensures.items in
    let x = inbox_rings c.args.columns.now.items in
    record {
      len = search rules;
      room = search rules;
      wide = refl;
      rings = sym (ap (λ l. with_row x (map (λ o. o.ring) l)) none ∙ with_no_row x);
      unsent = rw none (λ k d h. absurd (omega arith));
      untaken = c.requires.untaken;
    }

pub loop-shard-preserved : goal.loop-shard-preserved
loop-shard-preserved c =
    let inv = c.loop-shard.invariant in
    let more = mapped_more (λ o. o.ring) _ _ _ c.push_reserved.ensures.items in
    record {
      len = search rules;
      room = search rules;
      wide = search rules;
      rings = row_step (inbox_rings c.args.columns.now.items) _ _ _ _ c.loop-shard.shard _ _ inv.rings
          (omega (arith, length-map c.loop-shard.row.items (λ o. o.ring))) (omega (arith, length-map c.args.columns.now.items (λ c. map (λ i. i.ring) c.items)))
          (search rules) c.in_ok-push_to.ensures.rings more;
      untaken = c.in_ok-push_to.ensures.untaken;
      unsent =
          let p = λ (o : Sending). (o.sent ≡ []) × (o.free ≡ c.args.capacity) × (o.waiting ≡ 0) × (o.ring.capacity ≡ c.args.capacity) in
          let same = c.push_reserved.ensures.items in
          subst (All p) (sym same) (All-push p c.loop-shard.row.items _ inv.unsent (c.in_ok-outbox.ensures.1, c.in_ok-outbox.ensures.2, c.in_ok-outbox.ensures.3, c.in_ok-outbox.ensures.4));
    }
