-- What contracts see of the two ends of a ring, and of the rings from all workers to all shards.
use Rattle.std.specs.Prelude.{◌≡◌, ◌<◌, ◌≤◌, MatchResult, Result, ℕ, All, List, [], ◌∷◌, ◌++◌, Option, Vec, length, map, slice_get, slice_index_or, slice_set, vec_len}
use denote.RawPtr.{Ptr}
use Rattle.rtrb.specs.Shared.{Names}
use Rattle.std.specs.declared.alloc.Global.{Global}
use Rattle.span.specs.declared.key.Key.{Key}
use Rattle.span.specs.declared.limits.TheConstants.{MOST_RING_KEYS, MOST_SHARDS, MOST_SPANS}

-- which ring it is, and how many keys it holds
pub record Ring : Type 0 where
  pub capacity : ℕ
  pub words : Ptr
  pub slots : Ptr
  pub names : Names
  pub heap : Global

-- a sender's end: its ring, every key that was sent, oldest first, how many places are known to be
-- free, and how many of the keys sent last wait to be handed over
pub record Sending : Type 0 where
  pub ring : Ring
  pub sent : List Key
  pub free : ℕ
  pub waiting : ℕ

-- a taker's end: its ring, every key that was taken, oldest first, the keys that the next takes are
-- known to give, and how many of these are drawn from the ring, so that their places are free
pub record Taking : Type 0 where
  pub ring : Ring
  pub taken : List Key
  pub known : List Key
  pub drawn : ℕ

-- every number of the key lies within its limits
abbrev pub IsInRange : Key → Type 0
IsInRange key = (key.span.shard < MOST_SHARDS) × (key.span.serial < MOST_SPANS)
    × (1 ≤ key.generation)

-- numbers of workers, of shards and of keys in a ring that there may be
pub record AreWithinLimits (workers shards capacity : ℕ) : Type 0 where
  pub workers_in_range : (1 ≤ workers) × (workers ≤ MOST_SHARDS)
  pub shards_in_range : (1 ≤ shards) × (shards ≤ MOST_SHARDS)
  pub capacity_in_range : (1 ≤ capacity) × (capacity ≤ MOST_RING_KEYS)

-- the rings of senders' ends, by row
abbrev pub outbox_rings : List (Vec Sending Global) → List (List Ring)
outbox_rings rows = map (λ row. map (λ outbox. outbox.ring) row.items) rows

-- the rings of takers' ends, by column
abbrev pub inbox_rings : List (Vec Taking Global) → List (List Ring)
inbox_rings columns = map (λ column. map (λ inbox. inbox.ring) column.items) columns

-- the entry of a table at a row and a place
abbrev pub cell : {T : Type 0} → List (List T) → ℕ → ℕ → Option T
cell rows i j = slice_get (slice_index_or rows i []) j

-- the rows of one table are the columns of the other
abbrev pub AreTransposed : List (List Ring) → List (List Ring) → Type 0
AreTransposed rows columns = (worker shard : ℕ) → cell rows worker shard ≡ cell columns shard worker

-- columns that each go on by the row's entry, as far as the row goes
abbrev pub with_row : {T : Type 0} → List (List T) → List T → List (List T)
with_row [] row = []
with_row (column ∷ columns) [] = column ∷ columns
with_row (column ∷ columns) (entry ∷ row) = (column ++ entry ∷ []) ∷ with_row columns row

-- the table with one more entry, last in the row of the number
abbrev pub with_entry : {T : Type 0} → List (List T) → ℕ → T → List (List T)
with_entry rows i entry = slice_set rows i (slice_index_or rows i [] ++ entry ∷ [])

-- each row has n entries
abbrev pub AreLong : {T : Type 0} → ℕ → List (List T) → Type 0
AreLong n [] = Unit {0}
AreLong n (row ∷ rows) = (length row ≡ n) × AreLong n rows

-- senders' ends of rings of that capacity by which nothing was sent, so that no key waits, with all
-- places of their rings free
abbrev pub AreFreshOutboxes : ℕ → List Sending → Type 0
AreFreshOutboxes capacity = All (λ outbox. (outbox.sent ≡ []) × (outbox.free ≡ capacity)
    × (outbox.waiting ≡ 0) × (outbox.ring.capacity ≡ capacity))

-- the ends of a new ring of that capacity
abbrev pub AreNewEnds : ℕ → Sending → Taking → Type 0
AreNewEnds capacity outbox inbox = (outbox.ring ≡ inbox.ring) × (outbox.sent ≡ [])
    × (outbox.free ≡ capacity) × (outbox.waiting ≡ 0) × (outbox.ring.capacity ≡ capacity)
    × (inbox.taken ≡ [])

-- the key is the last that was sent; or it is handed back, and nothing was sent
abbrev pub IsSentOrBack : Key → List Key → Result (Unit {0}) Key → List Key → Type 0
IsSentOrBack key old result new = MatchResult result (λ _. new ≡ old ++ key ∷ [])
    (λ back. (back ≡ key) × (new ≡ old))

-- takers' ends by which nothing was taken
abbrev pub AreFreshInboxes : List Taking → Type 0
AreFreshInboxes = All (λ inbox. inbox.taken ≡ [])

-- the ends of new rings from that many workers to that many shards: by worker its ends to each
-- shard, and by shard its ends from each worker; the worker's end to the shard and the shard's end
-- from the worker are of one ring, and no ring has carried a key
pub record AreNewLinks (workers shards capacity : ℕ) (outboxes : List (Vec Sending Global))
    (inboxes : List (Vec Taking Global)) : Type 0 where
  pub workers_are : length outboxes ≡ workers
  pub shards_are : length inboxes ≡ shards
  pub rows_are_long : All (λ row. vec_len row ≡ shards) outboxes
  pub columns_are_long : All (λ column. vec_len column ≡ workers) inboxes
  pub rings_are : AreTransposed (outbox_rings outboxes) (inbox_rings inboxes)
  pub unsent : All (λ row. AreFreshOutboxes capacity row.items) outboxes
  pub untaken : All (λ column. AreFreshInboxes column.items) inboxes
