use Rattle.std.proofs.Math.Nat.{le-max_right}
use Rattle.pool.specs.StockKept.{state_of}
use Rattle.pool.proofs.TakenIn.{IsSound-with_rooms}
use Rattle.pool.proofs.stock.Stock.reserve.Goals as goal

pub invariant_of-self-2 : goal.invariant_of-self-2
invariant_of-self-2 g c = record {
  sound = rw c.in_ok-reserve.ensures.ok (IsSound-with_rooms (state_of c.self.inside) c.args.groups c.args.spans c.self.invariant.sound);
  room_for_groups = rw c.in_ok-reserve.ensures.ok (le-max_right c.self.inside.groups.room c.args.groups);
  guests_known = rw (c.in_ok-reserve.ensures.ok, c.in_ok-reserve-2.ensures.ok) c.self.invariant.guests_known;
  room_for_entries = rw c.in_ok-reserve-2.ensures.ok (le-max_right c.self.inside.directory.room c.args.spans);
}

pub returns-clause-sound : goal.returns-clause-sound
returns-clause-sound g c = (invariant_of-self-2 g c).sound
