use Rattle.std.proofs.Common.{◌≡◌, [], refl, subst, sym}
use Rattle.std.proofs.lemmas.List.Elements.{All-push}
use Rattle.teurlaks_c.specs.declared.recorded.KeptSeat.{KeptSeat}
use Rattle.teurlaks_c.specs.Recorded.{receipts_of}
use Rattle.teurlaks_c.specs.StewardCalls.{HaveNoReceipt}
use Rattle.teurlaks_c.proofs.HandingOut.{pushed}
use Rattle.teurlaks_c.proofs.recorded_stewards.kept_seats.Goals as goal

pub loop-seat-preserved : goal.loop-seat-preserved
loop-seat-preserved c = record {
  seats = pushed (λ (kept : KeptSeat). kept.seat) _ _ _ _ _ _ _ c.in_ok-push.ensures.items refl
      (c.in-Some.ensures {u = tt}).steps.0 c.loop-seat.invariant.seats;
  none = subst HaveNoReceipt (sym c.in_ok-push.ensures.items)
      (All-push (λ kept. receipts_of kept ≡ []) c.loop-seat.kept.items _ c.loop-seat.invariant.none c.new-receipts.ensures);
}
