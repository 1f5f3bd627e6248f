-- The steps and runs of the plain map of keys, and what of a run the plain map knows.
use Rattle.std.specs.Prelude.{◌≡◌, ◌⊎◌, ◌<◌, ◌≤◌, ℕ, Bool, true, false, if◌then◌else◌, List, [], ◌∷◌, ◌++◌, length, Some, None, IsSome}
use Rattle.span.specs.declared.key.Key.{Key}
use Rattle.span.specs.PlainMap.{PlainMap, may_set, with_pending, with_put, with_value, without}
use Rattle.arena_core.specs.declared.event.Event.{Event}
use Rattle.arena_core.specs.declared.event.Event.TheVariants.{Put, Get, Set, Free, Later, Settle, End, Begin, Retire, Trim, Adopt, Mark, MarkSome, Step, Close}
use Rattle.arena_core.specs.declared.reply.Reply.{Reply}
use Rattle.arena_core.specs.declared.reply.Reply.TheVariants.{Issued, Found, Replaced, Freed, Sent, Settled, Refused}
use Rattle.arena_core.specs.declared.reply.Refusal.TheVariants.{OutOfMemory, PagesSpent, Ended, RingFull, Config}
use Rattle.marks.specs.Numbers.{Limits}

-- the product has no such worker, or no such shard
abbrev pub IsOutside : Limits → ℕ → ℕ → Type 0
IsOutside limits worker shard = (limits.shards ≤ worker) ⊎ (limits.shards ≤ shard)

-- the key leaves the map, if it has a value there
abbrev pub Loses : PlainMap → Key → Bool → PlainMap → Type 0
Loses old key true new = IsSome (old.value_of key) × (new ≡ without old key)
Loses old key false new = (old.value_of key ≡ None) × (new ≡ old)

-- from old, the plain map may give this reply to the event and go on to new
abbrev pub PlainStep : Limits → PlainMap → Event → Reply → PlainMap → Type 0
-- a key that was never issued is issued, and has the value
PlainStep limits old (Put shard value) (Issued key) new = (old.is_issued key ≡ false)
    × (new ≡ with_put old key value)
PlainStep limits old (Put shard value) (Refused OutOfMemory) new = new ≡ old
PlainStep limits old (Put shard value) (Refused PagesSpent) new = new ≡ old
PlainStep limits old (Put shard value) (Refused Ended) new = new ≡ old
PlainStep limits old (Put shard value) (Refused Config) new = new ≡ old
PlainStep limits old (Get key) (Found value) new = (value ≡ old.value_of key) × (new ≡ old)
-- where the key has a value of as many words, this one takes its place
PlainStep limits old (Set key value) (Replaced true) new = (may_set old key value ≡ true)
    × (new ≡ with_value old key value)
PlainStep limits old (Set key value) (Replaced false) new = (may_set old key value ≡ false)
    × (new ≡ old)
PlainStep limits old (Set key value) (Refused OutOfMemory) new = (may_set old key value ≡ true)
    × (new ≡ old)
PlainStep limits old (Free key) (Freed freed) new = Loses old key freed new
-- where the list has room, the key goes last
PlainStep limits old (Later worker key) Sent new =
    (length (old.pending worker key.span.shard) < limits.ring_capacity)
    × (new ≡ with_pending old worker key.span.shard (old.pending worker key.span.shard ++ key ∷ []))
PlainStep limits old (Later worker key) (Refused RingFull) new =
    (length (old.pending worker key.span.shard) ≡ limits.ring_capacity) × (new ≡ old)
PlainStep limits old (Later worker key) (Refused OutOfMemory) new =
    (length (old.pending worker key.span.shard) < limits.ring_capacity) × (new ≡ old)
PlainStep limits old (Later worker key) (Refused Config) new =
    IsOutside limits worker key.span.shard × (new ≡ old)
-- the front key leaves the list and, where it is there, the map
PlainStep limits old (Settle worker shard) (Settled (Some key)) new = (rest : List Key)
    × (freed : Bool) × (old.pending worker shard ≡ key ∷ rest)
    × Loses (with_pending old worker shard rest) key freed new
PlainStep limits old (Settle worker shard) (Settled None) new = (old.pending worker shard ≡ [])
    × (new ≡ old)
PlainStep limits old (Settle worker shard) (Refused Config) new = IsOutside limits worker shard
    × (new ≡ old)
-- no other pair comes
PlainStep limits old event reply new = ⊥

-- the plain map knows the event: it has no shards that end, begin again, retire groups, give pages
-- back or adopt, and no plans
abbrev pub is_plain : Event → Bool
is_plain (End shard) = false
is_plain (Begin shard) = false
is_plain (Retire shard most) = false
is_plain (Trim shard) = false
is_plain (Adopt shard) = false
is_plain Mark = false
is_plain MarkSome = false
is_plain Step = false
is_plain Close = false
is_plain event = true

-- the events and their replies, with every end, begin, retirement, trim, adoption, mark, step and
-- close, and their replies, taken out
abbrev pub erased : List Event → List Reply → List (Event × Reply)
erased (event ∷ events) (reply ∷ replies) = if is_plain event then (event, reply)
    ∷ erased events replies else erased events replies
erased events replies = []

-- a step of the plain map, or where it does not know the event, none
abbrev pub ErasedStep : Limits → PlainMap → Event → Reply → PlainMap → Type 0
ErasedStep limits old (End shard) reply new = new ≡ old
ErasedStep limits old (Begin shard) reply new = new ≡ old
ErasedStep limits old (Retire shard most) reply new = new ≡ old
ErasedStep limits old (Trim shard) reply new = new ≡ old
ErasedStep limits old (Adopt shard) reply new = new ≡ old
ErasedStep limits old Mark reply new = new ≡ old
ErasedStep limits old MarkSome reply new = new ≡ old
ErasedStep limits old Step reply new = new ≡ old
ErasedStep limits old Close reply new = new ≡ old
ErasedStep limits old event reply new = PlainStep limits old event reply new

-- the plain map may give these replies to these events, one after another
abbrev pub PlainRun : Limits → PlainMap → List (Event × Reply) → PlainMap → Type 0
PlainRun limits old [] new = new ≡ old
PlainRun limits old (step ∷ steps) new = (mid : PlainMap) × PlainStep limits old step.0 step.1 mid
    × PlainRun limits mid steps new
