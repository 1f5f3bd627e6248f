-- How long a key waits at a seat for its block to be full, counted in calls of the seat: the 64th
-- further call hands it over.
use Rattle.std.specs.Prelude.{◌≡◌, ℕ, ◌+◌, ◌<◌, All, List, Option, None, Some, IfSome, IsSome, length, map, nat_lt, if◌then◌else◌}
use Rattle.remote_queue.specs.Rings.{Sending}
use Rattle.arena.specs.Seats.{AreNoFewer, KeepsEnds, SeatState, free_places, sent_by, sent_lists}
use Rattle.arena.specs.declared.outboxes.TheConstants.{MOST_DELAY}

-- no key waits at any of the ends for its block to be full
abbrev pub NoneWaits : List Sending → Type 0
NoneWaits outboxes = All (λ outbox. outbox.waiting ≡ 0) outboxes

-- what contracts see of a worker's ends of its rings: that to each shard; and, if keys may wait for
-- their block to be full, how many calls were made since the first of these was left
pub record OutboxesState : Type 0 where
  pub ends : List Sending
  pub delay : Option ℕ

-- ends of the same rings, by which the same keys were sent; no place that was known to be free is
-- lost
pub record KeepSent (old new : List Sending) : Type 0 where
  pub len : length new ≡ length old
  pub rings_are : map (λ outbox. outbox.ring) new ≡ map (λ outbox. outbox.ring) old
  pub sent_are : sent_by new ≡ sent_by old
  pub places : AreNoFewer (free_places old) (free_places new)

-- how many calls were made since the first key was left that may still wait, after one call more;
-- none where no key waits, as after the last call that it may wait
abbrev pub delay_after : Option ℕ → Option ℕ
delay_after None = None
delay_after (Some calls) = if nat_lt (calls + 1) MOST_DELAY then Some (calls + 1) else None

-- the same, after a call that leaves a key
abbrev pub delay_begun : Option ℕ → Option ℕ
delay_begun None = Some 0
delay_begun (Some calls) = delay_after (Some calls)

-- fewer calls are counted than a key may wait; if none is counted, no key waits
pub record IsDelayOf (outboxes : List Sending) (delay : Option ℕ) : Type 0 where
  pub few : IfSome delay (λ calls. calls < MOST_DELAY)
  pub none : delay ≡ None → NoneWaits outboxes

-- the same worker, section, numbers and rings, the same takers' ends, and the same keys sent; and
-- no place that was known to be free is lost
pub record KeepsSeat (old new : SeatState) : Type 0 where
  pub ends : KeepsEnds old new
  pub section_is : new.section ≡ old.section
  pub inboxes_are : new.inboxes ≡ old.inboxes
  pub sent_are : sent_lists new ≡ sent_lists old
  pub places : AreNoFewer (free_places old.outboxes) (free_places new.outboxes)

-- no key of the seat waits for its block to be full, and no call is counted
pub record HasNoneWaiting (seat : SeatState) : Type 0 where
  pub delay_is : seat.delay ≡ None
  pub none : NoneWaits seat.outboxes

-- keys that waited are handed over; a seat where none waited is as it was
pub record HandsOver (old new : SeatState) : Type 0 where
  pub kept : KeepsSeat old new
  pub none : HasNoneWaiting new
  pub unchanged : old.delay ≡ None → new ≡ old

-- one call of the seat more: where no key waits it is as it was; where keys wait the call is
-- counted, and nothing else changes, or it is the last that they may wait, and they are handed over
pub record CountsCall (old new : SeatState) : Type 0 where
  pub kept : KeepsSeat old new
  pub delay_is : new.delay ≡ delay_after old.delay
  pub none : new.delay ≡ None → NoneWaits new.outboxes
  pub unchanged : old.delay ≡ None → new ≡ old
  pub counted : IsSome new.delay → new ≡ record old { delay = new.delay }
