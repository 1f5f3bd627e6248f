-- The steps and runs of the core.
use Rattle.std.specs.Prelude.{◌≡◌, ◌⊎◌, ℕ, ◌+◌, ◌<◌, ◌≤◌, Bool, true, false, List, [], ◌∷◌, ◌++◌, length, map, slice_get, Some, None, is_some}
use Rattle.span.specs.declared.id.SpanId.{SpanId}
use Rattle.span.specs.declared.key.Key.{Key}
use Rattle.span.specs.Classes.{class_of}
use Rattle.span.specs.Log.{Value}
use Rattle.span.specs.PlainMap.{may_set}
use Rattle.span.specs.declared.class.Class.{Class}
use Rattle.shard.specs.Calls.{Puts, Frees, IsSpent, Sets}
use Rattle.shard.specs.State.{ShardState, begun}
use Rattle.shard.specs.Trims.{Trims}
use Rattle.shard.specs.declared.shard.Freed.TheVariants.{Yes}
use Rattle.shard.specs.declared.shard.replacing.Replaced.TheVariants as replaced
use Rattle.pool.specs.Calls.{Adopts, Frees as FreesPooled, HasClosed, HasNothingToAdopt, Receives, Sets as SetsPooled}
use Rattle.pool.specs.Retires.{HasRetired, Retires}
use Rattle.pool.specs.State.{PoolState}
use Rattle.certificate.specs.declared.certificate.Certificate.{Certificate}
use Rattle.fold.specs.Folds.{Folds}
use Rattle.fold.specs.declared.step.Step.{Step as Outcome}
use Rattle.fold.specs.declared.step.Step.TheVariants.{Absent, Emptied, Clash, Folded}
use Rattle.arena_core.specs.declared.event.Event.{Event}
use Rattle.arena_core.specs.declared.event.Event.TheVariants.{Put, Get, Set, Free, Later, Settle, End, Begin, Retire, Trim, Adopt, Mark, MarkSome, Step, Close}
use Rattle.arena_core.specs.declared.reply.Reply.{Reply}
use Rattle.arena_core.specs.declared.reply.Reply.TheVariants.{Issued, Found, Replaced, Freed, Sent, Settled, ShardEnded, ShardBegun, Retired, Trimmed, Adopted, Marked, Stepped, NoPairLeft, Closed, NoPlan, Refused}
use Rattle.arena_core.specs.declared.reply.Refusal.TheVariants.{OutOfMemory, PagesSpent, Ended, Running, PlanOpen, TooMany, NothingToAdopt, RingFull, Config}
use Rattle.arena_core.specs.Sound.{IsSound}
use Rattle.marks.specs.Closings.{closed_onto, reopened}
use Rattle.marks.specs.Seen.{AreTooMany, IsLargest, with_plan_told}
use Rattle.marks.specs.declared.sight.Sight.{Sight}
use Rattle.marks.specs.declared.sight.Sight.TheVariants.{All, Sparsest}
use Rattle.arena_core.specs.Plan.{IsCarriedOut, IsEmptyInPool, IsNext}
use Rattle.marks.specs.Plans.{with_next_done, OpenPlan}
use Rattle.arena_core.specs.Rings.{RingState, ring_at, with_keys, with_ring_at}
use Rattle.arena_core.specs.State.{CoreState, pages, shown, with_plan, with_pool, with_rings, with_shard}
use Rattle.arena_core.specs.Plain.{IsOutside, PlainRun, erased}

-- the shard of this number, which has not ended
pub record IsRunning (core : CoreState) (number : ℕ) (shard : ShardState) : Type 0 where
  pub here : slice_get core.shards number ≡ Some shard
  pub running : shard.ended ≡ false

-- the shard of this number has ended
abbrev pub HasEnded : CoreState → ℕ → Type 0
HasEnded core number = (shard : ShardState) × (slice_get core.shards number ≡ Some shard)
    × (shard.ended ≡ true)

-- there is a shard of this number, which has not ended
abbrev pub HasNotEnded : CoreState → ℕ → Type 0
HasNotEnded core number = (shard : ShardState) × IsRunning core number shard

-- the shard of this number has not ended, and a put of an object of the class there needs a page
-- that it may not have
abbrev pub NeedsPage : Class → CoreState → ℕ → Type 0
NeedsPage class core number = (shard : ShardState) × IsRunning core number shard
    × IsSpent class shard

-- the shard of this number has as many groups as it may have pages
abbrev pub HasAllGroups : CoreState → ℕ → Type 0
HasAllGroups core number = (shard : ShardState) × (slice_get core.shards number ≡ Some shard)
    × (shard.page_limit ≡ length shard.groups)

-- the shard of this number, if there is one, has not ended and may have another page
abbrev pub MayTake : CoreState → ℕ → Type 0
MayTake core number = (shard : ShardState) → slice_get core.shards number ≡ Some shard
    → (shard.ended ≡ false) × (length shard.groups < shard.page_limit)

-- only a refused allocation refuses a put of an object of the class there
abbrev pub MayPut : Class → CoreState → ℕ → Type 0
MayPut class core number = (shard : ShardState) × IsRunning core number shard
    × (IsSpent class shard → ⊥)

-- the shard of this number has not ended, and has a closed group
abbrev pub HasClosedGroup : CoreState → ℕ → Type 0
HasClosedGroup core number = (shard : ShardState) × IsRunning core number shard
    × HasClosed shard.groups

-- only a refused allocation refuses an end there
abbrev pub MayEnd : CoreState → ℕ → Type 0
MayEnd core number = (shard : ShardState) × IsRunning core number shard
    × (HasClosed shard.groups → ⊥)

-- only a refused allocation refuses an adoption there
abbrev pub MayAdopt : CoreState → ℕ → Type 0
MayAdopt core number = (shard : ShardState) × IsRunning core number shard
    × (length shard.groups < shard.page_limit) × (core.plan ≡ None)
    × (HasNothingToAdopt core.pool → ⊥)

-- a plan is open
abbrev pub HasPlan : CoreState → Type 0
HasPlan core = is_some core.plan ≡ true

-- a mark would see more than 4,096 groups on a side
abbrev pub HasTooMany : CoreState → Type 0
HasTooMany core = AreTooMany core.pool core.shards

-- only a refused allocation refuses a mark
abbrev pub MayMark : CoreState → Type 0
MayMark core = (core.plan ≡ None) × (HasTooMany core → ⊥)

-- the shard of this number puts the object, of the class that its words tell, and all else is as it
-- was
pub record PutsInShard (old : CoreState) (number : ℕ) (value : Value) (key : Key) (new : CoreState)
    : Type 0 where
  pub before : ShardState
  pub after : ShardState
  pub at : ℕ
  pub here : slice_get old.shards number ≡ Some before
  pub puts : Puts before (class_of value) value key at after
  pub rest : new ≡ with_shard old number after

-- one shard, which has the key's span, sets the key to the value, and all else is as it was
pub record SetsInShard (old : CoreState) (key : Key) (value : Value) (new : CoreState) :
    Type 0 where
  pub number : ℕ
  pub before : ShardState
  pub after : ShardState
  pub at : ℕ
  pub here : slice_get old.shards number ≡ Some before
  pub sets : Sets before key value (replaced.Yes at) after
  pub rest : new ≡ with_shard old number after

-- the pool, which has the key's span, sets the key to the value, and all else is as it was
pub record SetsInPool (old : CoreState) (key : Key) (value : Value) (new : CoreState) : Type 0 where
  pub after : PoolState
  pub at : ℕ
  pub sets : SetsPooled old.pool key value (replaced.Yes at) after
  pub rest : new ≡ with_pool old after

-- the key is set to the value by the shard or the pool that has its span, if it is live with an
-- object of as many words
abbrev pub SetsKey : CoreState → Key → Value → Bool → CoreState → Type 0
SetsKey old key value true new = SetsInShard old key value new ⊎ SetsInPool old key value new
SetsKey old key value false new = (may_set (shown old) key value ≡ false) × (new ≡ old)

-- one shard, which has the key's span, frees the key, and all else is as it was
pub record FreesInShard (old : CoreState) (key : Key) (new : CoreState) : Type 0 where
  pub number : ℕ
  pub before : ShardState
  pub after : ShardState
  pub at : ℕ
  pub here : slice_get old.shards number ≡ Some before
  pub frees : Frees before key (Yes at) after
  pub rest : new ≡ with_shard old number after

-- the pool, which has the key's span, frees the key, and all else is as it was
pub record FreesInPool (old : CoreState) (key : Key) (new : CoreState) : Type 0 where
  pub after : PoolState
  pub at : ℕ
  pub frees : FreesPooled old.pool key (Yes at) after
  pub rest : new ≡ with_pool old after

-- the key is freed by the shard or the pool that has its span, if it is live
abbrev pub FreesKey : CoreState → Key → Bool → CoreState → Type 0
FreesKey old key true new = FreesInShard old key new ⊎ FreesInPool old key new
FreesKey old key false new = ((shown old).value_of key ≡ None) × (new ≡ old)

-- the key goes last on the ring from the worker to the shard that opened its span, which has room
-- for it, and all else is as it was
pub record SendsKey (old : CoreState) (worker : ℕ) (key : Key) (new : CoreState) : Type 0 where
  pub ring : RingState
  pub here : ring_at old.rings worker key.span.shard ≡ Some ring
  pub room : length ring.keys < old.limits.ring_capacity
  pub rest : new ≡ with_rings old (with_ring_at old.rings worker key.span.shard
      (with_keys ring (ring.keys ++ key ∷ [])))

-- the ring from this worker to this shard holds as many keys as it may
abbrev pub HasFullRing : CoreState → ℕ → ℕ → Type 0
HasFullRing core worker shard = (ring : RingState) × (ring_at core.rings worker shard ≡ Some ring)
    × (length ring.keys ≡ core.limits.ring_capacity)

-- the ring from this worker to this shard has room for a key
abbrev pub HasRoomInRing : CoreState → ℕ → ℕ → Type 0
HasRoomInRing core worker shard = (ring : RingState) × (ring_at core.rings worker shard ≡ Some ring)
    × (length ring.keys < core.limits.ring_capacity)

-- the oldest key leaves the ring from the worker to the shard, and is freed wherever its span then
-- is, if it is live
pub record Settles (old : CoreState) (worker shard : ℕ) (key : Key) (new : CoreState) : Type 0 where
  pub ring : RingState
  pub left : List Key
  pub here : ring_at old.rings worker shard ≡ Some ring
  pub oldest : ring.keys ≡ key ∷ left
  pub freed : Bool
  pub frees : FreesKey (with_rings old (with_ring_at old.rings worker shard (with_keys ring left)))
      key freed new

-- no key waits on the ring from this worker to this shard
abbrev pub HasEmptyRing : CoreState → ℕ → ℕ → Type 0
HasEmptyRing core worker shard = (ring : RingState) × (ring_at core.rings worker shard ≡ Some ring)
    × (ring.keys ≡ [])

-- the shard of this number, which has no closed group, ends, its groups are the pool's, and all
-- other shards are as they were
pub record Ends (old : CoreState) (number : ℕ) (new : CoreState) : Type 0 where
  pub before : ShardState
  pub after : ShardState
  pub pool : PoolState
  pub here : slice_get old.shards number ≡ Some before
  pub unclosed : HasClosed before.groups → ⊥
  pub receives : Receives old.pool before pool after
  pub rest : new ≡ with_pool (with_shard old number after) pool

-- the shard of this number, which has ended, runs again and goes on to count the spans that it
-- opens, and all else is as it was
pub record BeginsShard (old : CoreState) (number : ℕ) (new : CoreState) : Type 0 where
  pub before : ShardState
  pub here : slice_get old.shards number ≡ Some before
  pub ended : before.ended ≡ true
  pub rest : new ≡ with_shard old number (begun before)

-- so many groups of the shard of this number, which has no closed group and has not ended, go to
-- the pool, and all other shards are as they were
pub record RetiresFrom (old : CoreState) (number most count : ℕ) (new : CoreState) : Type 0 where
  pub before : ShardState
  pub after : ShardState
  pub pool : PoolState
  pub here : slice_get old.shards number ≡ Some before
  pub unclosed : HasClosed before.groups → ⊥
  pub retires : Retires old.pool before most count pool after
  -- what of it a reader sees, without the moves
  pub whole : HasRetired old.pool before count pool after
  pub rest : new ≡ with_pool (with_shard old number after) pool

-- each open group of the shard of this number with no live slot has given its page back, that many
-- did, and all other shards are as they were
pub record TrimsShard (old : CoreState) (number count : ℕ) (new : CoreState) : Type 0 where
  pub before : ShardState
  pub after : ShardState
  pub here : slice_get old.shards number ≡ Some before
  pub trims : Trims before count after
  pub rest : new ≡ with_shard old number after

-- while no plan is open, the pool's group of lowest head that has a page goes to the shard of this
-- number, which has not ended, and all other shards are as they were
pub record AdoptsInShard (old : CoreState) (number : ℕ) (head : SpanId) (new : CoreState) :
    Type 0 where
  pub before : ShardState
  pub after : ShardState
  pub pool : PoolState
  pub here : slice_get old.shards number ≡ Some before
  pub running : before.ended ≡ false
  pub no_plan : old.plan ≡ None
  pub adopts : Adopts old.pool before head pool after
  pub rest : new ≡ with_pool (with_shard old number after) pool

-- the pairs of a new plan are open, none of them done with, the groups that are planned onto are
-- closed, and all else is as it was
abbrev pub with_plan_opened : CoreState → List (SpanId × SpanId) → CoreState
with_plan_opened core pairs = record core {
  shards = map (closed_onto pairs) core.shards;
  pool = with_plan_told core.pool true;
  plan = Some (record { pairs = pairs; done = 0 });
}

-- a mark: of what is in sight it makes a largest plan with its short set, opens the plan and closes
-- the groups that are planned onto
pub record Marks (sight : Sight) (old : CoreState) (certificate : Certificate) (new : CoreState) :
    Type 0 where
  pub no_plan : old.plan ≡ None
  pub largest : IsLargest sight old.pool old.shards certificate
  pub after : new ≡ with_plan_opened old certificate.plan

-- the next pair is folded: the spans of the abandoned group are guests of the owned one, on its
-- page, and all other shards are as they were
pub record FoldsNext (old : CoreState) (pair : SpanId × SpanId) (new : CoreState) : Type 0 where
  pub plan : OpenPlan
  pub number : ℕ
  pub before : ShardState
  pub after : ShardState
  pub pool : PoolState
  pub next : IsNext old plan pair
  pub here : slice_get old.shards number ≡ Some before
  pub folds : Folds old.pool before pair.0 pair.1 pool after
  pub rest : new ≡ with_plan (with_pool (with_shard old number after) pool)
      (Some (with_next_done plan))
  -- what of it a reader counts: one page goes
  pub page_goes : pages new + 1 ≡ pages old

-- the next pair's abandoned group is empty: it stays in the pool
pub record PassesNext (old : CoreState) (pair : SpanId × SpanId) (new : CoreState) : Type 0 where
  pub plan : OpenPlan
  pub next : IsNext old plan pair
  pub emptied : IsEmptyInPool old pair
  pub rest : new ≡ with_plan old (Some (with_next_done plan))

-- the pair is carried out where it can be, and never met as one that can't
abbrev pub TakesNext : CoreState → SpanId × SpanId → Outcome → CoreState → Type 0
TakesNext old pair Folded new = FoldsNext old pair new
TakesNext old pair Emptied new = PassesNext old pair new
TakesNext old pair Clash new = ⊥
TakesNext old pair Absent new = ⊥

-- a pair of the open plan is left
abbrev pub HasPairLeft : CoreState → Type 0
HasPairLeft core = (plan : OpenPlan) × (pair : SpanId × SpanId) × IsNext core plan pair

-- no pair of the open plan is left, and each is carried out
pub record HasNoPairLeft (core : CoreState) : Type 0 where
  pub plan : OpenPlan
  pub plan_is : core.plan ≡ Some plan
  pub all : plan.done ≡ length plan.pairs
  pub carried_out : (k : ℕ) (pair : SpanId × SpanId) → slice_get plan.pairs k ≡ Some pair
      → IsCarriedOut core pair

-- all groups are open, no plan is, and all else is as it was
abbrev pub with_plan_closed : CoreState → CoreState
with_plan_closed core = record core {
  shards = map reopened core.shards;
  pool = with_plan_told core.pool false;
  plan = None;
}

-- from old, the core gives this reply to the event and goes on to new
abbrev pub CoreStep : CoreState → Event → Reply → CoreState → Type 0
CoreStep old (Put shard value) (Issued key) new = PutsInShard old shard value key new
CoreStep old (Put shard value) (Refused Config) new = (old.limits.shards ≤ shard) × (new ≡ old)
CoreStep old (Put shard value) (Refused Ended) new = HasEnded old shard × (new ≡ old)
CoreStep old (Put shard value) (Refused PagesSpent) new = NeedsPage (class_of value) old shard
    × (new ≡ old)
CoreStep old (Put shard value) (Refused OutOfMemory) new = MayPut (class_of value) old shard
    × (new ≡ old)
CoreStep old (Get key) (Found value) new = (value ≡ (shown old).value_of key) × (new ≡ old)
CoreStep old (Set key value) (Replaced done) new = SetsKey old key value done new
CoreStep old (Set key value) (Refused OutOfMemory) new = (may_set (shown old) key value ≡ true)
    × (new ≡ old)
CoreStep old (Free key) (Freed freed) new = FreesKey old key freed new
CoreStep old (Later worker key) Sent new = SendsKey old worker key new
CoreStep old (Later worker key) (Refused RingFull) new = HasFullRing old worker key.span.shard
    × (new ≡ old)
CoreStep old (Later worker key) (Refused OutOfMemory) new = HasRoomInRing old worker key.span.shard
    × (new ≡ old)
CoreStep old (Later worker key) (Refused Config) new = IsOutside old.limits worker key.span.shard
    × (new ≡ old)
CoreStep old (Settle worker shard) (Settled (Some key)) new = Settles old worker shard key new
CoreStep old (Settle worker shard) (Settled None) new = HasEmptyRing old worker shard × (new ≡ old)
CoreStep old (Settle worker shard) (Refused Config) new = IsOutside old.limits worker shard
    × (new ≡ old)
CoreStep old (End shard) ShardEnded new = Ends old shard new
CoreStep old (End shard) (Refused Ended) new = HasEnded old shard × (new ≡ old)
CoreStep old (End shard) (Refused PlanOpen) new = HasPlan old × HasClosedGroup old shard
    × (new ≡ old)
CoreStep old (End shard) (Refused Config) new = (old.limits.shards ≤ shard) × (new ≡ old)
CoreStep old (End shard) (Refused OutOfMemory) new = MayEnd old shard × (new ≡ old)
CoreStep old (Begin shard) ShardBegun new = BeginsShard old shard new
CoreStep old (Begin shard) (Refused Running) new = HasNotEnded old shard × (new ≡ old)
CoreStep old (Begin shard) (Refused Config) new = (old.limits.shards ≤ shard) × (new ≡ old)
CoreStep old (Retire shard most) (Retired count) new = RetiresFrom old shard most count new
CoreStep old (Retire shard most) (Refused Ended) new = HasEnded old shard × (new ≡ old)
CoreStep old (Retire shard most) (Refused PlanOpen) new = HasPlan old × HasClosedGroup old shard
    × (new ≡ old)
CoreStep old (Retire shard most) (Refused Config) new = (old.limits.shards ≤ shard) × (new ≡ old)
CoreStep old (Retire shard most) (Refused OutOfMemory) new = MayEnd old shard × (new ≡ old)
CoreStep old (Trim shard) (Trimmed count) new = TrimsShard old shard count new
CoreStep old (Trim shard) (Refused Config) new = (old.limits.shards ≤ shard) × (new ≡ old)
CoreStep old (Adopt shard) (Adopted head) new = AdoptsInShard old shard head new
CoreStep old (Adopt shard) (Refused PagesSpent) new = HasAllGroups old shard × (new ≡ old)
CoreStep old (Adopt shard) (Refused Ended) new = HasEnded old shard × (new ≡ old)
CoreStep old (Adopt shard) (Refused PlanOpen) new = MayTake old shard × HasPlan old × (new ≡ old)
CoreStep old (Adopt shard) (Refused NothingToAdopt) new = MayTake old shard × (old.plan ≡ None)
    × HasNothingToAdopt old.pool × (new ≡ old)
CoreStep old (Adopt shard) (Refused Config) new = (old.limits.shards ≤ shard) × (old.plan ≡ None)
    × (HasNothingToAdopt old.pool → ⊥) × (new ≡ old)
CoreStep old (Adopt shard) (Refused OutOfMemory) new = MayAdopt old shard × (new ≡ old)
CoreStep old Mark (Marked certificate) new = Marks All old certificate new
CoreStep old Mark (Refused PlanOpen) new = HasPlan old × (new ≡ old)
CoreStep old Mark (Refused TooMany) new = (old.plan ≡ None) × HasTooMany old × (new ≡ old)
CoreStep old Mark (Refused OutOfMemory) new = MayMark old × (new ≡ old)
CoreStep old MarkSome (Marked certificate) new = Marks Sparsest old certificate new
CoreStep old MarkSome (Refused PlanOpen) new = HasPlan old × (new ≡ old)
CoreStep old MarkSome (Refused OutOfMemory) new = (old.plan ≡ None) × (new ≡ old)
CoreStep old Step (Stepped abandoned owned outcome) new =
    TakesNext old (abandoned, owned) outcome new
CoreStep old Step NoPairLeft new = HasNoPairLeft old × (new ≡ old)
CoreStep old Step NoPlan new = (old.plan ≡ None) × (new ≡ old)
CoreStep old Step (Refused OutOfMemory) new = HasPairLeft old × (new ≡ old)
CoreStep old Close Closed new = HasPlan old × (new ≡ with_plan_closed old)
CoreStep old Close NoPlan new = (old.plan ≡ None) × (new ≡ old)
-- no other pair comes
CoreStep old event reply new = ⊥

-- the core gives these replies to these events, one after another, and each state on the way is
-- sound
abbrev pub CoreRun : CoreState → List Event → List Reply → CoreState → Type 0
CoreRun old [] [] new = new ≡ old
CoreRun old (event ∷ events) (reply ∷ replies) new = (mid : CoreState)
    × CoreStep old event reply mid × IsSound mid × CoreRun mid events replies new
CoreRun old events replies new = ⊥

-- the replies to the events are appended, one for each: they are those of the core's steps, and,
-- erased, those of the plain map
pub record Answers (old : CoreState) (events : List Event) (replies replies_new : List Reply)
    (new : CoreState) : Type 0 where
  pub answers : List Reply
  pub appended : replies_new ≡ replies ++ answers
  pub each : length answers ≡ length events
  pub steps : CoreRun old events answers new
  pub plain : PlainRun old.limits (shown old) (erased events answers) (shown new)
