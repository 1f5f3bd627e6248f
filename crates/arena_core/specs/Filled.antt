-- Lists that go only as far as something was entered, and the rows of rings. No public clause cites
-- this module.
use Rattle.std.specs.Prelude.{◌≡◌, ◌⊎◌, ℕ, zero, suc, ◌<◌, ◌≤◌, List, [], ◌∷◌, ◌++◌, length, slice_get, slice_set, Option, Some, None}
use Rattle.span.specs.declared.key.Key.{Key}
use Rattle.arena_core.specs.declared.reply.Refusal.{Refusal}
use Rattle.arena_core.specs.declared.reply.Refusal.TheVariants.{Config, OutOfMemory}
use Rattle.arena_core.specs.Rings.{CannotEnter, RingState, with_keys}

-- the first n items, with the filling in each place that has none
abbrev pub filled : {T : Type 0} → ℕ → T → List T → List T
filled zero filling items = []
filled (suc n) filling [] = filling ∷ filled n filling []
filled (suc n) filling (item ∷ items) = item ∷ filled n filling items

-- why no ring is made from the worker to the shard: there is none from the one or to the other, or
-- there is, and memory was refused
abbrev pub CannotReach : Refusal → ℕ → ℕ → ℕ → Type 0
CannotReach Config shards worker shard = (shards ≤ worker) ⊎ (shards ≤ shard)
CannotReach OutOfMemory shards worker shard = (worker < shards) × (shard < shards)
CannotReach refusal shards worker shard = ⊥

-- the key goes last on the worker's ring of the row, which has room for it
abbrev pub SendsIn : List RingState → ℕ → Key → List RingState → Type 0
SendsIn row worker key new = (ring : RingState) × (slice_get row worker ≡ Some ring)
    × (length ring.keys < ring.capacity)
    × (new ≡ slice_set row worker (with_keys ring (ring.keys ++ key ∷ [])))

-- why the row takes no key from the worker
abbrev pub CannotSendIn : Refusal → List RingState → ℕ → Type 0
CannotSendIn Config row worker = slice_get row worker ≡ None
CannotSendIn refusal row worker = (ring : RingState) × (slice_get row worker ≡ Some ring)
    × CannotEnter refusal ring

-- the oldest key leaves the worker's ring of the row, if one waits there
abbrev pub TakesIn : List RingState → ℕ → Option Key → List RingState → Type 0
TakesIn row worker None new = (ring : RingState) × (slice_get row worker ≡ Some ring)
    × (ring.keys ≡ []) × (new ≡ row)
TakesIn row worker (Some key) new = (ring : RingState) × (rest : List Key)
    × (slice_get row worker ≡ Some ring) × (ring.keys ≡ key ∷ rest)
    × (new ≡ slice_set row worker (with_keys ring rest))
