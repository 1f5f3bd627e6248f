use Rattle.std.proofs.Common.{◌<◌, ℕ, slice_index_or}
use Rattle.arena.specs.Seats.{HasItsRings}
use Rattle.arena.proofs.settling.know_rings.Given as goal

abbrev pub invariant-loop-seat : goal.invariant-loop-seat
invariant-loop-seat g l = (k : ℕ) (d : _) → k < l.seat-index → HasItsRings (slice_index_or l.seats k d)
