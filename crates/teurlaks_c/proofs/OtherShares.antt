-- What is shared and is no seat.
use Rattle.std.proofs.Common.{◌≡◌, refl}
use Rattle.std.specs.Prelude.{Some}
use Rattle.teurlaks_c.specs.declared.recorded.RecordedSeat.{RecordedSeat as Recorded}
use Rattle.teurlaks_c.specs.declared.share.Share.{Share}
use Rattle.teurlaks_c.specs.declared.share.Share.TheVariants.{Seat, Session, RecordedSeat}
use Rattle.teurlaks_c.specs.declared.share.SharedSeat.{SharedSeat}
use Rattle.teurlaks_c.specs.declared.share.SharedSession.{SharedSession}
use Rattle.teurlaks_c.specs.SeatCalls.{HasNoSeat}

pub HasNoSeat-other : (share : Share) → ((seat : SharedSeat) → share ≡ Seat seat → ⊥) → ((session : SharedSession) → share ≡ Session session → ⊥)
    → ((seat : Recorded) → share ≡ RecordedSeat seat → ⊥) → HasNoSeat (Some share)
HasNoSeat-other (Seat seat) no_seat no_session no_recorded = absurd (no_seat seat refl)
HasNoSeat-other (Session session) no_seat no_session no_recorded = absurd (no_session session refl)
HasNoSeat-other (RecordedSeat seat) no_seat no_session no_recorded = absurd (no_recorded seat refl)
HasNoSeat-other share no_seat no_session no_recorded = tt
