-- Rings that are settled: each key that was sent and not taken is taken, and freed.
use Rattle.std.specs.Prelude.{◌≡◌, ℕ, ◌<◌, ◌≤◌, ◌++◌, All, List, [], Vec, fold, length, map, max, slice_index_or, sum}
use Rattle.std.specs.declared.alloc.Global.{Global}
use Rattle.span.specs.declared.key.Key.{Key}
use Rattle.span.specs.declared.receipt.Receipt.{Receipt}
use Rattle.remote_queue.specs.Rings.{Ring, Taking}
use Rattle.arena.specs.Receipts.{AddsFrees, joined}
use Rattle.arena.specs.Seats.{KeepPlaces, SeatState, in_rings, known_lists, sending_side, sent_on, taken_lists, taken_on}
use Rattle.remote_queue.specs.declared.ends.TheConstants.{MOST_KNOWN_KEYS}

-- what takers' ends have: their rings, and the keys taken from each
pub record TakingSide : Type 0 where
  pub rings : List Ring
  pub taken : List (List Key)

abbrev pub taking_side : List Taking → TakingSide
taking_side inboxes = record {
  rings = map (λ inbox. inbox.ring) inboxes;
  taken = taken_lists inboxes;
}

-- each seat has the same worker, section, numbers and rings, and the same keys were sent and taken;
-- no place that was known to be free is lost
pub record AreSameSeats (before after : List SeatState) : Type 0 where
  pub tables : map (λ seat. seat.table) after ≡ map (λ seat. seat.table) before
  pub sending : map sending_side after ≡ map sending_side before
  pub taking : map (λ seat. taking_side seat.inboxes) after
      ≡ map (λ seat. taking_side seat.inboxes) before
  pub places : KeepPlaces before after

-- what a shard's ends know to be left in their rings, by worker
abbrev pub known_by : List SeatState → ℕ → List (List Key)
known_by seats shard = slice_index_or (map (λ seat. known_lists seat.inboxes) seats) shard []

-- the keys taken by each end, with those that it knows to be left
abbrev pub taken_with_known : List Taking → List (List Key)
taken_with_known inboxes = map (λ inbox. inbox.taken ++ inbox.known) inboxes

-- the greatest section that a seat is in
abbrev pub greatest_section : List SeatState → ℕ
greatest_section seats = fold (λ most seat. max most seat.section) 0 seats

-- every ring into the shard was settled: of each, the keys sent are those taken before, followed by
-- those that were freed now, as many as its count
pub record IsSettled (seats : List SeatState) (shard section : ℕ) (counts : List ℕ)
    (before after : List Receipt) : Type 0 where
  pub keys : List (List Key)
  pub each_ring : length keys ≡ length seats
  pub counted : counts ≡ map length keys
  pub whole : (worker : ℕ) → worker < length seats
      → sent_on seats worker shard ≡ taken_on seats shard worker ++ slice_index_or keys worker []
  pub freed : AddsFrees shard section (joined keys) before after

-- every ring is settled, in the greatest section of the seats: of each shard, the row of counts is
-- that of its rings, and the receipts stand last in the list of its worker
abbrev pub AreSettled : {K : Type 0} → (K → List Receipt) → List SeatState → List (Vec ℕ Global)
    → List K → List K → Type 0
AreSettled {K} told seats counts before after = (shard : ℕ) (c : Vec ℕ Global) (d e : K)
    → shard < length seats
    → IsSettled seats shard (greatest_section seats) (slice_index_or counts shard c).items
    (told (slice_index_or before shard d)) (told (slice_index_or after shard e))

-- all keys that the ends of each shard know to be left are freed in the section, with receipts that
-- stand last in the list of the shard's worker
abbrev pub FreeAllKnown : {K : Type 0} → (K → List Receipt) → List SeatState → ℕ → List K → List K
    → Type 0
FreeAllKnown {K} told seats section before after = (shard : ℕ) (x : SeatState) (d e : K)
    → shard < length seats
    → AddsFrees shard section (joined (known_lists (slice_index_or seats shard x).inboxes))
    (told (slice_index_or before shard d)) (told (slice_index_or after shard e))

-- the row of each shard counts the keys that its ends know to be left, by ring
abbrev pub CountAllKnown : List SeatState → List (Vec ℕ Global) → Type 0
CountAllKnown seats counts = (shard : ℕ) (x : SeatState) (d : Vec ℕ Global)
    → shard < length seats → (slice_index_or counts shard d).items
    ≡ map length (known_lists (slice_index_or seats shard x).inboxes)

-- the list of each of so many workers has room for as many receipts as the row of its shard counts
abbrev pub HaveRoomFor : {K : Type 0} → (K → ℕ) → ℕ → List (Vec ℕ Global) → List K → Type 0
HaveRoomFor {K} room shards counts lists = (shard : ℕ) (d : K) (e : Vec ℕ Global) → shard < shards
    → sum (slice_index_or counts shard e).items ≤ room (slice_index_or lists shard d)

-- each worker, section, number and ring is as before, and so are the keys sent; each of them was
-- taken, and no place that was known to be free is lost
pub record AreEmptied (before after : List SeatState) : Type 0 where
  pub tables : map (λ seat. seat.table) after ≡ map (λ seat. seat.table) before
  pub sending : map sending_side after ≡ map sending_side before
  pub rings : map in_rings after ≡ map in_rings before
  pub taken : (worker shard : ℕ) → worker < length before → shard < length before
      → taken_on after shard worker ≡ sent_on before worker shard
  pub places : KeepPlaces before after

-- the ends into a shard know all that is left in their rings, and the counts say how many keys that
-- is
pub record AreCounted (seats counted : List SeatState) (shard : ℕ) (counts : List ℕ) : Type 0 where
  pub wide : length counts ≡ length seats
  pub counts_are : counts ≡ map length (known_by counted shard)
  pub few : All (λ count. count ≤ MOST_KNOWN_KEYS) counts
  pub whole : (worker : ℕ) → worker < length seats
      → sent_on seats worker shard ≡ taken_on seats shard worker
      ++ slice_index_or (known_by counted shard) worker []

-- of each worker, the keys sent to the shard are those taken by the ends before, followed by those
-- that they now know to be left
abbrev pub KnowAllLeft : List SeatState → ℕ → List Taking → List Taking → Type 0
KnowAllLeft seats shard before after = (worker : ℕ) → worker < length seats
    → sent_on seats worker shard ≡ slice_index_or (taken_lists before) worker []
    ++ slice_index_or (known_lists after) worker []
