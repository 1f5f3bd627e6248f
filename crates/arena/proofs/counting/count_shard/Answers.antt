use Rattle.std.proofs.Common.{◌∙◌, [], ap, arith, length, length-set, slice_index_or, sym}
use Rattle.remote_queue.specs.Rings.{inbox_rings}
use Rattle.arena.specs.Seats.{sending_side}
use Rattle.arena.proofs.Linking.{ends_of, home_again, kept_of, known_others, same_length, same_workers, seats_same, shard_counted}
use Rattle.arena.proofs.counting.count_shard.Goals as goal

pub count_rings-requires-clause-linked : goal.count_rings-requires-clause-linked
count_rings-requires-clause-linked c =
    ends_of c.args.seats.now c.args.shard c.swap_inboxes.new.self c.index-seats-shard.result c.swap_inboxes.new.inboxes.items c.requires.linked c.requires.shard
    (ap sending_side c.swap_inboxes.ensures.seat) c.swap_inboxes.ensures.inboxes

pub swap_inboxes-requires-2-clause-column : goal.swap_inboxes-requires-2-clause-column
swap_inboxes-requires-2-clause-column c =
    let counted = c.count_rings.ensures in
    let worker = kept_of (λ s. (sending_side s).worker) c.args.seats.now c.count_rings.new.seats c.args.shard c.swap_inboxes.new.self
    c.index-seats-shard-2.result c.requires.shard (same_workers _ _ counted.seats.0) ∙ ap (λ s. s.worker) c.swap_inboxes.ensures.seat in
    ap (λ t. t.rings) counted.inboxes ∙ c.swap_inboxes.ensures.column ∙ ap (λ w. slice_index_or (inbox_rings c.swap_inboxes.new.columns.items) w []) (sym worker)

pub returns-clause-same : goal.returns-clause-same
returns-clause-same c =
    let counted = c.count_rings.ensures in
    seats_same c.args.seats.now c.count_rings.new.seats c.args.shard c.swap_inboxes.new.self c.swap_inboxes-2.new.self c.index-seats-shard.result
    c.index-seats-shard-2.result c.swap_inboxes.new.inboxes.items c.count_rings.new.inboxes.items
    c.requires.shard (ap sending_side c.swap_inboxes.ensures.seat) c.swap_inboxes.ensures.inboxes counted.seats.0 counted.seats.1
    (ap sending_side c.swap_inboxes-2.ensures.seat) (ap (λ s. s.inboxes) c.swap_inboxes-2.ensures.seat) counted.inboxes counted.tables
    (home_again c.args.seats.now c.count_rings.new.seats c.args.shard c.swap_inboxes.new.self c.swap_inboxes-2.new.self c.index-seats-shard.result
    c.index-seats-shard-2.result (inbox_rings c.swap_inboxes.new.columns.items) c.requires.shard counted.tables
    (ap (λ s. s.table.rows) c.swap_inboxes.ensures.seat) c.swap_inboxes.ensures.columns (ap (λ s. s.table) c.swap_inboxes-2.ensures.seat))
    (ap (λ s. s.outboxes) c.swap_inboxes.ensures.seat) counted.places (ap (λ s. s.outboxes) c.swap_inboxes-2.ensures.seat)

pub returns-clause-others : goal.returns-clause-others
returns-clause-others c =
    let counted = c.count_rings.ensures in
    known_others c.args.seats.now c.count_rings.new.seats c.args.shard c.swap_inboxes.new.self c.swap_inboxes-2.new.self c.index-seats-shard.result
    c.index-seats-shard-2.result c.swap_inboxes.new.inboxes.items c.count_rings.new.inboxes.items
    c.requires.shard (ap sending_side c.swap_inboxes.ensures.seat) c.swap_inboxes.ensures.inboxes counted.seats.0 counted.seats.1
    (ap sending_side c.swap_inboxes-2.ensures.seat) (ap (λ s. s.inboxes) c.swap_inboxes-2.ensures.seat) counted.inboxes

pub returns-clause-counted : goal.returns-clause-counted
returns-clause-counted c =
    let counted = c.count_rings.ensures in
    let taking = counted.inboxes in
    let wide = c.requires.linked.wide c.args.shard c.index-seats-shard.result c.requires.shard in
    let long = same_length (λ i. i.ring) c.swap_inboxes.new.inboxes.items c.count_rings.new.inboxes.items (ap (λ t. t.rings) taking) in
    shard_counted c.args.seats.now c.count_rings.new.seats c.args.shard c.swap_inboxes.new.self c.swap_inboxes-2.new.self c.index-seats-shard.result
    c.index-seats-shard-2.result c.swap_inboxes.new.inboxes.items c.count_rings.new.inboxes.items
    c.requires.shard (ap sending_side c.swap_inboxes.ensures.seat) c.swap_inboxes.ensures.inboxes counted.seats.0 counted.seats.1
    (ap sending_side c.swap_inboxes-2.ensures.seat) (ap (λ s. s.inboxes) c.swap_inboxes-2.ensures.seat) counted.inboxes
    c.count_rings.new.counts.items (long ∙ ap length c.swap_inboxes.ensures.inboxes ∙ wide.1) counted.counted counted.few
    (λ w h. counted.whole w (omega (arith, length-set c.args.seats.now c.args.shard c.swap_inboxes.new.self)))
