use Rattle.std.proofs.Common.{◌≡◌, ◌<◌, ◌≤◌, ◌∙◌, [], length, map, get_or, slice_index_or, rules, arith, refl}
use Rattle.std.proofs.Math.Seq.{map-set_same}
use Rattle.std.proofs.lemmas.List.Elements.{All-from_get_or}
use Rattle.arena.specs.Seats.{sending_side, sent_lists, taken_lists}
use Rattle.arena.proofs.CountedRings.{all_counted, counted_more, few_more, ring_here, same_taking, whole_here, whole_more}
use Rattle.arena.proofs.Sending.{KeepPlaces-more, KeepPlaces-set}
use Rattle.remote_queue.specs.declared.ends.TheConstants.{MOST_KNOWN_KEYS}
use Rattle.arena.proofs.counting.count_rings.Goals as goal

pub count_left-requires : goal.count_left-requires
count_left-requires c =
    let inv = c.loop-from.invariant in
    ring_here c.loop-from.seats c.args.seats.now c.loop-from.inboxes.items c.args.inboxes.now.items c.loop-from.from c.args.shard
    (get_or c.loop-from.seats c.loop-from.from c.index-seats-from.result) c.index-seats-from.result c.index_mut.result.now (search rules)
    (omega (arith, inv.wide, c.loop-from.inboxes.ok.0))
    refl c.index_mut.ensures.value inv.sending inv.taking c.requires.linked

pub loop-from-preserved : goal.loop-from-preserved
loop-from-preserved c =
    let inv = c.loop-from.invariant in
    let w = c.loop-from.from in
    let seats = c.loop-from.seats in
    let inboxes = c.loop-from.inboxes.items in
    let d = c.index-seats-from.result in
    let x = get_or seats w d in
    let before = c.index_mut.result.now in
    let after = c.count_left.new.inbox in
    let one = c.count_left.ensures in
    let below : w < length seats = search rules in
    let inside : w < length inboxes = omega (arith, inv.wide, c.loop-from.inboxes.ok.0) in
    let long : length c.loop-from.counts.items ≡ w = omega (arith, inv.len, c.loop-from.counts.ok.0) in
    let pushed = c.push_reserved.ensures.items in
    record {
      len = search rules;
      room = search rules;
      wide = search rules;
      sending = map-set_same sending_side seats w c.count_left.new.self d one.seat.0 ∙ inv.sending;
      tables = map-set_same (λ s. s.table) seats w c.count_left.new.self d one.table ∙ inv.tables;
      places = KeepPlaces-more c.args.seats.now seats _ inv.places (KeepPlaces-set seats w c.count_left.new.self d one.places);
      idle = map-set_same (λ s. s.inboxes) seats w c.count_left.new.self d one.seat.1 ∙ inv.idle;
      taking = same_taking inboxes w after before c.index_mut.ensures.value one.inbox.0 one.inbox.1 ∙ inv.taking;
      counted = rw pushed (counted_more inboxes w after inside c.loop-from.counts.items c.count_left.result long one.left inv.counted);
      few = rw pushed (few_more inboxes w after inside c.loop-from.counts.items c.count_left.result MOST_KNOWN_KEYS long one.few inv.few);
      whole =
          whole_more inboxes w after inside (λ k. slice_index_or (slice_index_or (map sent_lists c.args.seats.now) k []) c.args.shard [])
          (λ k. slice_index_or (taken_lists c.args.inboxes.now.items) k [])
          (whole_here seats c.args.seats.now inboxes c.args.inboxes.now.items w c.args.shard x d before after below inside refl c.index_mut.ensures.value
          inv.sending inv.taking one.inbox.1 one.whole) inv.whole;
    }

pub returns-clause-counted : goal.returns-clause-counted
returns-clause-counted c =
    let inv = c.loop-from.invariant in
    all_counted c.loop-from.counts.items c.loop-from.inboxes.items (omega (arith, inv.len, inv.wide, c.loop-from.inboxes.ok.0, c.loop-from.counts.ok.0))
    (λ k h. inv.counted k (omega (arith, inv.wide, c.loop-from.inboxes.ok.0)))

pub returns-clause-few : goal.returns-clause-few
returns-clause-few c =
    let inv = c.loop-from.invariant in
    All-from_get_or (λ n. n ≤ MOST_KNOWN_KEYS) c.loop-from.counts.items 0 (λ k h. inv.few k (omega (arith, inv.len, c.loop-from.counts.ok.0)))
