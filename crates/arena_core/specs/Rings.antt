-- The keys that wait to be freed, and the rings that hold them.
use Rattle.std.specs.Prelude.{◌≡◌, ℕ, ◌<◌, List, [], ◌∷◌, ◌++◌, length, replicate, slice_get, slice_set, slice_index_or, Option, Some, None}
use Rattle.span.specs.declared.key.Key.{Key}
use Rattle.arena_core.specs.declared.reply.Refusal.{Refusal}
use Rattle.arena_core.specs.declared.reply.Refusal.TheVariants.{OutOfMemory, RingFull, Config}

-- a ring: how many keys it holds at most, and the keys that wait in it, the oldest first
pub record RingState : Type 0 where
  pub capacity : ℕ
  pub keys : List Key

-- a ring in which no key waits
abbrev pub new_ring : ℕ → RingState
new_ring capacity = record { capacity = capacity; keys = [] }

-- empty rings, one from each of that many workers to each of as many shards
abbrev pub new_rings : ℕ → ℕ → List (List RingState)
new_rings shards capacity = replicate shards (replicate shards (new_ring capacity))

-- the ring with other keys
abbrev pub with_keys : RingState → List Key → RingState
with_keys ring keys = record ring { keys = keys }

-- the worker's ring among those to one shard, if both are there
abbrev pub ring_in : Option (List RingState) → ℕ → Option RingState
ring_in None worker = None
ring_in (Some rings) worker = slice_get rings worker

-- the ring from this worker to this shard; rings stand by shard, then by worker
abbrev pub ring_at : List (List RingState) → ℕ → ℕ → Option RingState
ring_at rings worker shard = ring_in (slice_get rings shard) worker

-- the keys of the ring, if there is one
abbrev pub keys_of : Option RingState → List Key
keys_of None = []
keys_of (Some ring) = ring.keys

-- the keys that wait on the ring from this worker to this shard
abbrev pub pending_at : List (List RingState) → ℕ → ℕ → List Key
pending_at rings worker shard = keys_of (ring_at rings worker shard)

-- the rings with another one from this worker to this shard
abbrev pub with_ring_at : List (List RingState) → ℕ → ℕ → RingState → List (List RingState)
with_ring_at rings worker shard ring = slice_set rings shard
    (slice_set (slice_index_or rings shard []) worker ring)

-- the key goes last on the ring from this worker to the shard that opened its span, which has room
-- for it
pub record Sends (old : List (List RingState)) (worker : ℕ) (key : Key)
    (new : List (List RingState)) : Type 0 where
  pub ring : RingState
  pub here : ring_at old worker key.span.shard ≡ Some ring
  pub room : length ring.keys < ring.capacity
  pub after : new ≡ with_ring_at old worker key.span.shard (with_keys ring (ring.keys ++ key ∷ []))

-- why a ring takes no key: it holds as many keys as it may, or it has room, and memory for its keys
-- was refused
abbrev pub CannotEnter : Refusal → RingState → Type 0
CannotEnter RingFull ring = length ring.keys ≡ ring.capacity
CannotEnter OutOfMemory ring = length ring.keys < ring.capacity
CannotEnter refusal ring = ⊥

-- the refusal is Config, for this reason, and all is as it was
abbrev pub IsConfigFor : {S : Type 0} → Refusal → Type 0 → S → S → Type 0
IsConfigFor refusal Reason old new = (refusal ≡ Config) × Reason × (new ≡ old)

-- the key goes last on the ring, which has room for it
abbrev pub Enters : RingState → Key → RingState → Type 0
Enters old key new = (length old.keys < old.capacity) × (new ≡ with_keys old (old.keys ++ key ∷ []))

-- why a key is not sent: its ring takes none, or there is no such ring
abbrev pub CannotSend : Refusal → List (List RingState) → ℕ → ℕ → Type 0
CannotSend Config rings worker shard = ring_at rings worker shard ≡ None
CannotSend refusal rings worker shard = (ring : RingState)
    × (ring_at rings worker shard ≡ Some ring) × CannotEnter refusal ring

-- the oldest key leaves the ring from this worker to this shard, if one waits there
abbrev pub Takes : List (List RingState) → ℕ → ℕ → Option Key → List (List RingState) → Type 0
Takes old worker shard None new = (ring : RingState) × (ring_at old worker shard ≡ Some ring)
    × (ring.keys ≡ []) × (new ≡ old)
Takes old worker shard (Some key) new = (ring : RingState) × (rest : List Key)
    × (ring_at old worker shard ≡ Some ring) × (ring.keys ≡ key ∷ rest)
    × (new ≡ with_ring_at old worker shard (with_keys ring rest))
