use Rattle.std.proofs.Common.{◌≡◌, ◌++◌, map}
use Rattle.std.specs.Vec.Iter.{into_iter_items}
use Rattle.teurlaks_c.specs.StewardCalls.{HaveNoReceipt}
use Rattle.teurlaks_c.proofs.recorded_stewards.kept_seats.Given as goal

abbrev pub invariant-loop-seat : goal.invariant-loop-seat
invariant-loop-seat l = record {
  seats : map (λ kept. kept.seat) l.kept.items ++ into_iter_items l.seat-iterator ≡ l.fn.seats.items;
  none : HaveNoReceipt l.kept.items;
}
