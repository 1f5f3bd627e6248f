-- A seat that a thread gives back to the steward of its arena.
use Rattle.std.specs.Prelude.{◌≡◌, ◌<◌, ◌⊎◌, ◌++◌, ◌∷◌, [], ℕ, Option, Some, None, Result, MatchResult, vec_capacity, vec_len}
use Rattle.std.specs.Arc.{arc_value}
use Rattle.arena.specs.Delays.{HandsOver}
use Rattle.arena.specs.Seats.{SeatState}
use Rattle.teurlaks_c.specs.declared.recorded.KeptSeat.{KeptSeat}
use Rattle.teurlaks_c.specs.declared.recorded.RecordedSeat.{RecordedSeat as Recorded}
use Rattle.teurlaks_c.specs.declared.recorded.RecordedSteward.{RecordedSteward as Recorder}
use Rattle.teurlaks_c.specs.declared.share.Share.{Share}
use Rattle.teurlaks_c.specs.declared.share.Share.TheVariants.{Seat, Session, Steward, RecordedSeat, RecordedSteward}
use Rattle.teurlaks_c.specs.declared.share.SharedSteward.{SharedSteward}
use Rattle.teurlaks_c.specs.Recorded.{receipts_of}
use Rattle.teurlaks_c.specs.SeatCalls.{HasNoSeat}
use Rattle.teurlaks_c.specs.Status.{config, done, no_core, out_of_memory}
use Rattle.teurlaks_c.specs.StewardCalls.{HasNoSteward}

-- the seat, which is of the steward's numbers, stands last among those that the steward has to give
-- out, with all that waited handed over; nothing else of the steward changes
pub record TakesSeat (before : SharedSteward) (seat : SeatState) (after : SharedSteward) :
    Type 0 where
  pub fits : seat.limits ≡ (arc_value before.arena).limits
  pub back : SeatState
  pub arena_is : after.arena ≡ before.arena
  pub inner_is : after.inner ≡ before.inner
  pub seats_are : after.seats.items ≡ before.seats.items ++ back ∷ []
  pub handed : HandsOver seat back

-- the same of a recorded seat, with its receipts
pub record TakesKept (before : Recorder) (seat : Recorded) (after : Recorder) : Type 0 where
  pub fits : seat.kept.seat.limits ≡ (arc_value before.arena).limits
  pub back : KeptSeat
  pub arena_is : after.arena ≡ before.arena
  pub inner_is : after.inner ≡ before.inner
  pub seats_are : after.seats.items ≡ before.seats.items ++ back ∷ []
  pub handed : HandsOver seat.kept.seat back.seat
  pub receipts : receipts_of back ≡ receipts_of seat.kept

-- the steward takes the seat, also one that keeps its shard; a steward takes none of another kind
-- of arena
abbrev pub Takes : Share → Share → Share → Type 0
Takes (Steward before) (Seat left) (Steward after) = TakesSeat before left.seat after
Takes (Steward before) (Session left) (Steward after) = TakesSeat before left.session.seat after
Takes (RecordedSteward before) (RecordedSeat seat) (RecordedSteward after) =
    TakesKept before seat after
Takes steward seat after = ⊥

-- the same steward, plan and certificate, with the same seats to give out
abbrev pub IsSameSteward : Share → Share → Type 0
IsSameSteward (Steward before) (Steward after) = (after.arena ≡ before.arena)
    × (after.inner ≡ before.inner) × (after.seats.items ≡ before.seats.items)
IsSameSteward (RecordedSteward before) (RecordedSteward after) = (after.arena ≡ before.arena)
    × (after.inner ≡ before.inner)
    × (after.seats.items ≡ before.seats.items)
IsSameSteward before after = after ≡ before

-- the seat, also one that keeps its shard, is of an arena of the steward's kind and numbers
abbrev pub AreAlike : Share → Share → Type 0
AreAlike (Steward steward) (Seat left) = left.seat.limits ≡ (arc_value steward.arena).limits
AreAlike (Steward steward) (Session left) = left.session.seat.limits
    ≡ (arc_value steward.arena).limits
AreAlike (RecordedSteward steward) (RecordedSeat seat) =
    seat.kept.seat.limits ≡ (arc_value steward.arena).limits
AreAlike steward seat = ⊥

-- whether a handle has a seat, also one that keeps its shard, as the status of a call on it says
abbrev pub seat_status : Option Share → ℕ
seat_status (Some (Seat seat)) = done
seat_status (Some (Session session)) = done
seat_status (Some (RecordedSeat seat)) = done
seat_status held = no_core

-- whether it has a steward
abbrev pub steward_status : Option Share → ℕ
steward_status (Some (Steward steward)) = done
steward_status (Some (RecordedSteward steward)) = done
steward_status held = no_core

-- why a seat is not taken: there is no steward, or no seat; or there are both, and the seat is of
-- another arena; or the two are alike, and memory is refused
abbrev pub IsNotTaken : Share → Share → ℕ → Type 0
IsNotTaken steward seat says = ((HasNoSteward (Some steward) ⊎ HasNoSeat (Some seat))
    × (says ≡ no_core))
    ⊎ (((HasNoSteward (Some steward) → ⊥) × (HasNoSeat (Some seat) → ⊥) × (says ≡ config))
    ⊎ (AreAlike steward seat × (says ≡ out_of_memory)))

-- the seat of one handle goes back to the steward of the other, and its own handle has nothing
-- then; or all is as it was
abbrev pub LeavesFor : (old seat : Option Share) → ℕ → (new seat_new : Option Share) → Type 0
LeavesFor None seat says new seat_new = (says ≡ no_core) × (new ≡ None) × (seat_new ≡ seat)
LeavesFor (Some steward) None says new seat_new = (says ≡ no_core) × (new ≡ Some steward)
    × (seat_new ≡ None)
LeavesFor (Some steward) (Some seat) says new seat_new =
    (after : Share) × (new ≡ Some after)
    × (((says ≡ done) × (seat_new ≡ None) × Takes steward seat after)
    ⊎ ((seat_new ≡ Some seat) × IsSameSteward steward after × IsNotTaken steward seat says))

-- the seat is of the steward's numbers, and there is room for it; no public clause cites this, nor
-- what comes below
abbrev pub MayTakeSeat : SharedSteward → SeatState → Type 0
MayTakeSeat steward seat = (seat.limits ≡ (arc_value steward.arena).limits)
    × (vec_len steward.seats < vec_capacity steward.seats)

-- the same of what two handles have
abbrev pub MayTake : Share → Share → Type 0
MayTake (Steward steward) (Seat left) = MayTakeSeat steward left.seat
MayTake (Steward steward) (Session left) = MayTakeSeat steward left.session.seat
MayTake (RecordedSteward steward) (RecordedSeat seat) =
    (seat.kept.seat.limits ≡ (arc_value steward.arena).limits)
    × (vec_len steward.seats < vec_capacity steward.seats)
MayTake steward seat = ⊥

-- the steward is as it was, and may take the seat, or says why it does not
abbrev pub Weighs : Share → Share → Result (Unit {0}) ℕ → Share → Type 0
Weighs steward seat answer after = IsSameSteward steward after
    × MatchResult answer (λ ready. MayTake after seat) (λ says. IsNotTaken steward seat says)

-- the steward is as it was, and may take the seat; or the seat is of another arena, or memory is
-- refused
abbrev pub WeighsSeat : SharedSteward → SeatState → Result (Unit {0}) ℕ → SharedSteward → Type 0
WeighsSeat steward seat answer after = IsSameSteward (Steward steward) (Steward after)
    × MatchResult answer (λ ready. MayTakeSeat after seat)
    (λ says. (says ≡ config) ⊎ ((seat.limits ≡ (arc_value steward.arena).limits)
    × (says ≡ out_of_memory)))
