use Rattle.std.proofs.Common.{All, ap, subst}
use Rattle.marks.specs.Numbers.{Limits}
use Rattle.remote_queue.specs.Rings.{AreFreshInboxes, AreFreshOutboxes}
use Rattle.arena.specs.Seats.{SeatState}
use Rattle.arena.proofs.arena.Arena.open_with_log.Goals as goal

pub returns-clause-fresh : goal.returns-clause-fresh
returns-clause-fresh g c =
    subst (λ n. All (λ (seat : SeatState). AreFreshOutboxes n seat.outboxes × AreFreshInboxes seat.inboxes) c.in_ok-with_limits.field-0.1.items)
    (ap (λ (limits : Limits). limits.ring_capacity) c.in-Some.ensures.parts) c.in_ok-with_limits.ensures.fresh
