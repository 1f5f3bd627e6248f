use Rattle.arena.proofs.SeatRings.{made_table}
use Rattle.arena.proofs.arena.Arena.with_limits.Goals as goal

pub arena_of-requires : goal.arena_of-requires
arena_of-requires g c =
    let links = c.in_ok-links.links in
    let said = c.in_ok-links.ensures in
    rw c.of-table.ensures (made_table links.outboxes.items links.inboxes.items c.args.limits.shards c.args.limits.ring_capacity said)
