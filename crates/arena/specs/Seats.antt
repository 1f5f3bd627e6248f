-- What contracts see of a seat, and of seats whose ends of rings belong together.
use Rattle.std.specs.Prelude.{◌≡◌, ℕ, ◌<◌, ◌≤◌, All, List, [], ◌∷◌, ◌++◌, MatchResult, None, Option, Result, Vec, length, map, slice_index_or, slice_set}
use Rattle.std.specs.declared.alloc.Global.{Global}
use Rattle.span.specs.declared.key.Key.{Key}
use Rattle.marks.specs.Numbers.{Limits}
use Rattle.remote_queue.specs.Rings.{AreFreshInboxes, AreFreshOutboxes, AreTransposed, Ring, Sending, Taking, cell, inbox_rings, outbox_rings}

-- the rings of an arena: by worker those to each shard, and by shard those from each worker
pub record Table : Type 0 where
  pub rows : List (List Ring)
  pub columns : List (List Ring)

-- the rings of these ends, by worker and by shard
abbrev pub table_of_ends : List (Vec Sending Global) → List (Vec Taking Global) → Table
table_of_ends outboxes inboxes = record {
  rows = outbox_rings outboxes;
  columns = inbox_rings inboxes;
}

-- a table of as many workers and shards, in which the ring of a worker to a shard is that of the
-- shard from the worker
abbrev pub IsTableOf : ℕ → Table → Type 0
IsTableOf shards table =
    (length table.rows ≡ shards) × (length table.columns ≡ shards)
    × All (λ row. length row ≡ shards) table.rows
    × All (λ column. length column ≡ shards) table.columns × AreTransposed table.rows table.columns

-- the worker's number, the section of the run that it is in, the numbers and the rings of its
-- arena, and its ends of rings: to each shard, and from each worker into its own shard; and, where
-- keys may wait for their block to be full, how many calls it made since the first of these was
-- left
pub record SeatState : Type 0 where
  pub worker : ℕ
  pub section : ℕ
  pub limits : Limits
  pub table : Table
  pub delay : Option ℕ
  pub outboxes : List Sending
  pub inboxes : List Taking

-- the seat of a worker in the first section, at which no key waits
abbrev pub new_seat : ℕ → Limits → Table → List Sending → List Taking → SeatState
new_seat worker limits table outboxes inboxes = record {
  worker = worker;
  section = 0;
  limits = limits;
  table = table;
  delay = None;
  outboxes = outboxes;
  inboxes = inboxes;
}

-- the seat with these takers' ends, and these rings by shard
abbrev pub with_inboxes : SeatState → List (List Ring) → List Taking → SeatState
with_inboxes seat columns inboxes = record seat {
  table = record { rows = seat.table.rows; columns = columns };
  inboxes = inboxes;
}

-- who sits there, and in which section
pub record Standing : Type 0 where
  pub worker : ℕ
  pub section : ℕ
  pub limits : Limits

abbrev pub standing : SeatState → Standing
standing seat = record { worker = seat.worker; section = seat.section; limits = seat.limits }

-- a worker in the first section
abbrev pub first_standing : Limits → ℕ → Standing
first_standing limits worker = record { worker = worker; section = 0; limits = limits }

-- the rings that it sends by
abbrev pub out_rings : SeatState → List Ring
out_rings seat = map (λ outbox. outbox.ring) seat.outboxes

-- the rings that it takes from
abbrev pub in_rings : SeatState → List Ring
in_rings seat = map (λ inbox. inbox.ring) seat.inboxes

-- the keys sent by each end
abbrev pub sent_by : List Sending → List (List Key)
sent_by outboxes = map (λ outbox. outbox.sent) outboxes

-- the keys sent by each end of the seat
abbrev pub sent_lists : SeatState → List (List Key)
sent_lists seat = sent_by seat.outboxes

-- the key is sent last to the shard that opened its span; or it is handed back, and none is sent
abbrev pub Sends : {A : Type 0} → Key → List (List Key) → Result A Key → List (List Key) → Type 0
Sends key old result new = MatchResult result
    (λ _. new ≡ slice_set old key.span.shard (slice_index_or old key.span.shard [] ++ key ∷ []))
    (λ back. (back ≡ key) × (new ≡ old))

-- the keys taken by each end
abbrev pub taken_lists : List Taking → List (List Key)
taken_lists inboxes = map (λ inbox. inbox.taken) inboxes

-- the keys that the next takes are known to give, of each end
abbrev pub known_lists : List Taking → List (List Key)
known_lists inboxes = map (λ inbox. inbox.known) inboxes

-- how many places of each ring are known to be free
abbrev pub free_places : List Sending → List ℕ
free_places outboxes = map (λ outbox. outbox.free) outboxes

-- how many places of the ring to the shard are known to be free
abbrev pub free_places_to : List Sending → ℕ → ℕ
free_places_to outboxes shard = slice_index_or (free_places outboxes) shard 0

-- of each ring but the one to this shard at least as many places are known to be free as before
abbrev pub KeepPlacesBut : ℕ → List Sending → List Sending → Type 0
KeepPlacesBut this before after = (shard : ℕ) → (shard ≡ this → ⊥)
    → free_places_to before shard ≤ free_places_to after shard

-- of each ring at least as many places are known to be free as before
abbrev pub AreNoFewer : List ℕ → List ℕ → Type 0
AreNoFewer before after = (shard : ℕ) → slice_index_or before shard 0 ≤ slice_index_or after shard 0

-- of each ring between the seats at least as many places are known to be free as before
abbrev pub KeepPlaces : List SeatState → List SeatState → Type 0
KeepPlaces before after =
    (worker : ℕ) → AreNoFewer (slice_index_or (map (λ seat. free_places seat.outboxes) before)
    worker []) (slice_index_or (map (λ seat. free_places seat.outboxes) after) worker [])

-- what a worker sent to a shard
abbrev pub sent_on : List SeatState → ℕ → ℕ → List Key
sent_on seats worker shard = slice_index_or (slice_index_or (map sent_lists seats) worker []) shard
    []

-- what a shard's thread took of what a worker sent
abbrev pub taken_on : List SeatState → ℕ → ℕ → List Key
taken_on seats shard worker = slice_index_or (slice_index_or
    (map (λ seat. taken_lists seat.inboxes) seats) shard []) worker []

-- the same worker, numbers, arena's rings, and rings of its own
pub record KeepsEnds (old new : SeatState) : Type 0 where
  pub worker_is : new.worker ≡ old.worker
  pub limits_are : new.limits ≡ old.limits
  pub table_is : new.table ≡ old.table
  pub outboxes_are : out_rings new ≡ out_rings old
  pub inboxes_are : in_rings new ≡ in_rings old

-- the same ends in the same section, of which the takers' are as they were
abbrev pub KeepsAllButSent : SeatState → SeatState → Type 0
KeepsAllButSent old new = KeepsEnds old new × (new.section ≡ old.section)
    × (new.inboxes ≡ old.inboxes)

-- what a seat sends by: its worker, section, numbers and rings, and the keys sent by each
pub record SendingSide : Type 0 where
  pub worker : ℕ
  pub section : ℕ
  pub limits : Limits
  pub rings : List Ring
  pub sent : List (List Key)

abbrev pub sending_side : SeatState → SendingSide
sending_side seat =
    record {
      worker = seat.worker;
      section = seat.section;
      limits = seat.limits;
      rings = out_rings seat;
      sent = sent_lists seat;
    }

-- one seat a worker, in order, each with an end to each shard and from each worker; a worker's end
-- to a shard and that shard's end from the worker are of one ring
pub record AreLinked (seats : List SeatState) : Type 0 where
  pub in_order : (worker : ℕ) (d : SeatState) → worker < length seats
      → (slice_index_or seats worker d).worker ≡ worker
  pub wide : All (λ seat. (length seat.outboxes ≡ length seats)
      × (length seat.inboxes ≡ length seats)) seats
  pub linked : (worker shard : ℕ) → cell (map out_rings seats) worker shard
      ≡ cell (map in_rings seats) shard worker

-- no key was sent or taken by an end of the seats, and all places of their rings are free
abbrev pub HaveFreshRings : ℕ → List SeatState → Type 0
HaveFreshRings capacity seats = All (λ seat. AreFreshOutboxes capacity seat.outboxes
    × AreFreshInboxes seat.inboxes) seats

-- each seat stands at its worker's number
abbrev pub AreInOrder : List SeatState → Type 0
AreInOrder seats = (worker : ℕ) (d : SeatState) → worker < length seats
    → (slice_index_or seats worker d).worker ≡ worker

-- all seats of the arena with these numbers and rings: one a worker, in order
pub record AreSeatsOf (limits : Limits) (table : Table) (seats : List SeatState) : Type 0 where
  pub each : length seats ≡ limits.shards
  pub in_order : AreInOrder seats
  pub of_table : All (λ seat. seat.table ≡ table) seats

-- the rings of a seat are those of its row and its column
pub record HasItsRings (seat : SeatState) : Type 0 where
  pub row_is : out_rings seat ≡ slice_index_or seat.table.rows seat.worker []
  pub column_is : in_rings seat ≡ slice_index_or seat.table.columns seat.worker []
