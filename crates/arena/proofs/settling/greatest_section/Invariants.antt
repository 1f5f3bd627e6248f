use Rattle.std.proofs.Common.{◌≡◌, take}
use Rattle.arena.specs.Settled.{greatest_section}
use Rattle.arena.proofs.settling.greatest_section.Given as goal

abbrev pub invariant-loop-seat : goal.invariant-loop-seat
invariant-loop-seat l = l.most ≡ greatest_section (take l.seat-index l.seats)
