-- What the calls of the pool do and answer.
use Rattle.std.specs.Prelude.{◌≡◌, ◌≢◌, ◌⊎◌, map, ℕ, ◌+◌, ◌-◌, ◌<◌, ◌≤◌, true, false, List, [], ◌∷◌, length, insert, remove, Option, Some, None, IsSome, is_some, slice_get, slice_set}
use Rattle.std.specs.FinSet as set
use Rattle.std.specs.List.{list_any}
use Rattle.span.specs.declared.id.SpanId.{SpanId}
use Rattle.span.specs.declared.key.Key.{Key}
use Rattle.span.specs.Ids.{rank}
use Rattle.span.specs.Log.{Holds, Value}
use Rattle.span.specs.State.{IsSettable, SpanState}
use Rattle.page.specs.Words.{Words, object_in}
use Rattle.shard.specs.Group.{GroupState}
use Rattle.groups.specs.Group.{HasNoHead, IsElsewhere, IsHeadOf, IsHere, spans_of, with_span, IsPlaceFor}
use Rattle.groups.specs.Spans.{union_of, with_free}
use Rattle.groups.specs.Brief.{IsBriefOf}
use Rattle.groups.specs.Pages.{set_group}
use Rattle.groups.specs.Whole.{WholeState, spans_moved, whole_of}
use Rattle.shard.specs.Moves.{TakesIn as TakesInShard, with_room as with_room_in}
use Rattle.shard.specs.State.{ShardState}
use Rattle.groups.specs.declared.brief.Brief.{Brief}
use Rattle.shard.specs.declared.shard.Found.{Found}
use Rattle.shard.specs.declared.shard.Found.TheVariants as found
use Rattle.shard.specs.declared.shard.Freed.{Freed}
use Rattle.shard.specs.declared.shard.Freed.TheVariants as freed
use Rattle.shard.specs.declared.shard.replacing.Replaced.{Replaced}
use Rattle.shard.specs.declared.shard.replacing.Replaced.TheVariants as replaced
use Rattle.pool.specs.State.{PoolState, PooledState}

-- what a look-up of the key finds: the object at its slot of its span's page, and how many changes
-- its span's log has
abbrev pub Gets : PoolState → Key → Found → Type 0
Gets pool key (found.Value value at) =
    (index place : ℕ) × (words : Words) × (group : PooledState) × (span : SpanState)
    × IsHere pool.groups key.span index place group span × (group.page ≡ Some words)
    × Holds span.log key.slot key.generation × (value.now ≡ object_in words span.class key.slot)
    × (at ≡ length span.log)
Gets pool key (found.Gone at) =
    (index place : ℕ) × (group : PooledState) × (span : SpanState)
    × IsHere pool.groups key.span index place group span
    × (Holds span.log key.slot key.generation → ⊥) × (at ≡ length span.log)
Gets pool key found.NotHere = IsElsewhere pool.groups key.span

-- the group of the head, and what the brief tells of it; a group of the pool is never closed
abbrev pub IsBriefHere : List PooledState → SpanId → Brief → Type 0
IsBriefHere groups head brief = (index : ℕ) × (group : PooledState)
    × IsHeadOf groups head index group × IsBriefOf group.head.class (spans_of group)
    (is_some group.page) false brief

-- the group after it gives its page up, which it does where no slot is live
pub record GivesUp (group group_now : PooledState) : Type 0 where
  pub emptied : union_of (spans_of group) ≡ set.empty → group_now ≡ record group { page = None }
  pub live : union_of (spans_of group) ≢ set.empty → group_now ≡ group

-- the pool with another group in the place of one; where the new one has no live slot, it has no
-- page
pub record Leaves (old : PoolState) (index : ℕ) (group : PooledState) (new : PoolState) :
    Type 0 where
  pub now : PooledState
  pub gives_up : GivesUp group now
  pub after : new ≡ record old { groups = slice_set old.groups index now }

-- what a free of the key does and answers: it adds its own change to its span's log, and gives up
-- the page of a group that it empties; or it does nothing
abbrev pub Frees : PoolState → Key → Freed → PoolState → Type 0
Frees old key (freed.Yes at) new =
    (index place : ℕ) × (group : PooledState) × (span : SpanState)
    × IsHere old.groups key.span index place group span
    × Holds span.log key.slot key.generation × (at ≡ length span.log)
    × Leaves old index (with_span group place (with_free span key)) new
Frees old key (freed.No at) new =
    (index place : ℕ) × (group : PooledState) × (span : SpanState)
    × IsHere old.groups key.span index place group span
    × (Holds span.log key.slot key.generation → ⊥) × (at ≡ length span.log) × (new ≡ old)
Frees old key freed.NotHere new = IsElsewhere old.groups key.span × (new ≡ old)

-- what a set of the key to the value does and answers: it writes the value at the key's slot of its
-- group's page, and adds its own change to its span's log; or it does nothing, where the key is not
-- live or its object has another class
abbrev pub Sets : PoolState → Key → Value → Replaced → PoolState → Type 0
Sets old key value (replaced.Yes at) new =
    (index place : ℕ) × (group : PooledState) × (span : SpanState)
    × IsHere old.groups key.span index place group span
    × IsSettable span key.slot key.generation value × (at ≡ length span.log)
    × (new
    ≡ record old {
      groups = slice_set old.groups index (set_group group place span key.slot key.generation
          value);
    })
Sets old key value (replaced.No at) new =
    (index place : ℕ) × (group : PooledState) × (span : SpanState)
    × IsHere old.groups key.span index place group span
    × (IsSettable span key.slot key.generation value → ⊥) × (at ≡ length span.log) × (new ≡ old)
Sets old key value replaced.NotHere new = IsElsewhere old.groups key.span × (new ≡ old)

-- the group of the head leaves the pool, with its page, if it has one, and its spans, and all else
-- stays
abbrev pub Lifts : PoolState → SpanId → Option WholeState → PoolState → Type 0
Lifts old head None new = HasNoHead old.groups head × (new ≡ old)
Lifts old head (Some whole) new =
    (index : ℕ) × (group : PooledState) × IsHeadOf old.groups head index group
    × (whole ≡ whole_of group)
    × (new ≡ record old { groups = remove old.groups index })

-- the pool with reserved room for that many groups, with that many spans together
abbrev pub with_rooms : PoolState → ℕ → ℕ → PoolState
with_rooms pool groups spans = record pool { group_room = groups; span_room = spans }

-- the pool with reserved room for one group of that many spans
abbrev pub with_room : PoolState → ℕ → PoolState
with_room pool spans = with_rooms pool 1 spans

-- the pool may take the group in: its spans are not here, and there is room for it
pub record MayTakeIn (pool : PoolState) (whole : WholeState) : Type 0 where
  pub elsewhere : (place : ℕ) (span : SpanState) → slice_get (spans_moved whole) place ≡ Some span
      → IsElsewhere pool.groups span.id
  pub group_room : 0 < pool.group_room
  pub span_room : length (spans_moved whole) ≤ pool.span_room

-- the group is in the pool at the place of its head, in reserved room: with its page where a slot
-- is live, and else without one
pub record TakesIn (old : PoolState) (whole : WholeState) (new : PoolState) : Type 0 where
  pub index : ℕ
  pub place : IsPlaceFor old.groups whole.head.id index
  pub page : Option Words
  pub emptied : union_of (spans_moved whole) ≡ set.empty → page ≡ None
  pub live : union_of (spans_moved whole) ≢ set.empty → page ≡ whole.words
  pub after : new ≡ record old {
    groups = insert old.groups index
        (record { head = whole.head; guests = whole.guests; page = page; closed = tt });
    group_room = old.group_room - 1;
    span_room = old.span_room - length (spans_moved whole);
  }

-- the groups come into the pool, one after another, the last of them first
abbrev pub TakesAll : PoolState → List WholeState → PoolState → Type 0
TakesAll old [] new = new ≡ old
TakesAll old (whole ∷ wholes) new = (mid : PoolState) × TakesAll old wholes mid
    × TakesIn mid whole new

-- the end of a shard: all its groups come to the pool whole, and those with no live slot give up
-- their pages on the way; the shard has ended, and has no group and no reserved room
pub record Receives (old : PoolState) (shard : ShardState) (new : PoolState) (ended : ShardState) :
    Type 0 where
  pub group_room : ℕ
  pub span_room : ℕ
  pub running : shard.ended ≡ false
  pub moved : TakesAll (with_rooms old group_room span_room) (map whole_of shard.groups) new
  pub after : ended ≡ record shard {
    ended = true;
    groups = [];
    group_room = 0;
    span_room = 0;
    onto = None;
  }

-- the group is in the pool whole: its spans with their logs, and the words of its page where a slot
-- is live; where none is, it has no page
pub record IsPooled (pool : PoolState) (whole : WholeState) : Type 0 where
  pub index : ℕ
  pub group : PooledState
  pub here : slice_get pool.groups index ≡ Some group
  pub head : group.head ≡ whole.head
  pub guests : group.guests ≡ whole.guests
  pub words : union_of (spans_moved whole) ≢ set.empty → group.page ≡ whole.words
  pub unpaged : union_of (spans_moved whole) ≡ set.empty → group.page ≡ None

-- every group of the shard is in the pool, whole, every earlier group stays there, and there is no
-- other
pub record HasReceived (old : PoolState) (shard : ShardState) (new : PoolState) : Type 0 where
  pub came : (index : ℕ) (group : GroupState) → slice_get shard.groups index ≡ Some group
      → IsPooled new (whole_of group)
  pub stays : (index : ℕ) (group : PooledState) → slice_get old.groups index ≡ Some group
      → IsPooled new (whole_of group)
  pub no_other : length new.groups ≡ length old.groups + length shard.groups

-- one of the spans is among the groups already
abbrev pub HasAny : List PooledState → List SpanState → Type 0
HasAny groups spans = (place : ℕ) × (span : SpanState) × (slice_get spans place ≡ Some span)
    × (IsElsewhere groups span.id → ⊥)

-- a span that would move is in the pool already
abbrev pub IsInPool : PoolState → ShardState → Type 0
IsInPool pool shard = (index : ℕ) × (group : GroupState)
    × (slice_get shard.groups index ≡ Some group) × HasAny pool.groups (spans_of group)

-- one of the groups is closed
abbrev pub HasClosed : List GroupState → Type 0
HasClosed groups = list_any (λ group. group.closed) groups ≡ true

-- the first of the groups that has a page
pub record IsFirstPaged (groups : List PooledState) (index : ℕ) (group : PooledState) : Type 0 where
  pub here : slice_get groups index ≡ Some group
  pub paged : IsSome group.page
  pub lower : (other : ℕ) (before : PooledState) → other < index
      → slice_get groups other ≡ Some before → before.page ≡ None

-- of the groups that have a page, the one of lowest head
pub record IsLowestPaged (pool : PoolState) (index : ℕ) (group : PooledState) : Type 0 where
  pub here : slice_get pool.groups index ≡ Some group
  pub paged : IsSome group.page
  pub lowest : (other : ℕ) (paged : PooledState) → slice_get pool.groups other ≡ Some paged
      → IsSome paged.page → rank group.head.id ≤ rank paged.head.id

-- the head of that group
abbrev pub IsHeadOfLowest : PoolState → SpanId → Type 0
IsHeadOfLowest pool head = (index : ℕ) × (group : PooledState) × IsLowestPaged pool index group
    × (group.head.id ≡ head)

-- none of the groups has a page
abbrev pub HasNoPage : List PooledState → Type 0
HasNoPage groups = (index : ℕ) (group : PooledState) → slice_get groups index ≡ Some group
    → group.page ≡ None

-- no group of the pool has a page
abbrev pub HasNothingToAdopt : PoolState → Type 0
HasNothingToAdopt pool = HasNoPage pool.groups

-- an adoption: the pool's group of lowest head that has a page goes to the shard whole
pub record Adopts (old : PoolState) (shard : ShardState) (head : SpanId) (new : PoolState)
    (adopter : ShardState) : Type 0 where
  pub whole : WholeState
  pub index : ℕ
  pub group : PooledState
  pub lowest : IsLowestPaged old index group
  pub head_is : head ≡ group.head.id
  pub lifts : Lifts old head (Some whole) new
  pub takes_in : TakesInShard (with_room_in shard None (length (spans_moved whole))) whole adopter

-- the id is of the shard's number, and no span that it has opened has it
abbrev pub MayOpen : ShardState → SpanId → Type 0
MayOpen shard id = (id.shard ≡ shard.number) × (shard.opened ≤ id.serial)

-- the shard has a span of this id, or may yet open one
abbrev pub IsTaken : ShardState → SpanId → Type 0
IsTaken shard id = MayOpen shard id ⊎ (IsElsewhere shard.groups id → ⊥)

-- one of the spans is in the shard already, or one that it may yet open
abbrev pub HasDoubled : ShardState → List SpanState → Type 0
HasDoubled shard spans = (place : ℕ) × (span : SpanState) × (slice_get spans place ≡ Some span)
    × IsTaken shard span.id

-- a span of the pool's group of the head is in the shard already, or one that it may yet open
abbrev pub WouldDouble : PoolState → ShardState → SpanId → Type 0
WouldDouble pool shard head = (index : ℕ) × (group : PooledState)
    × IsHeadOf pool.groups head index group × HasDoubled shard (spans_of group)

-- a span of the pool's lowest group that has a page is in the shard already, or one that it may yet
-- open
abbrev pub IsDoubled : PoolState → ShardState → Type 0
IsDoubled pool shard = (index : ℕ) × (group : PooledState) × IsLowestPaged pool index group
    × HasDoubled shard (spans_of group)

-- the shard may have another page and has not ended, but it has a span of the group already, or may
-- yet open it
abbrev pub MeetsDouble : PoolState → ShardState → Type 0
MeetsDouble pool shard = (shard.page_limit ≢ length shard.groups) × (shard.ended ≡ false)
    × IsDoubled pool shard

-- the shard may have another page and has not ended, and no such span is there, but a plan is open
abbrev pub MeetsPlan : PoolState → ShardState → Type 0
MeetsPlan pool shard = (shard.page_limit ≢ length shard.groups) × (shard.ended ≡ false)
    × (IsDoubled pool shard → ⊥) × (pool.has_plan ≡ true)

-- the shard may have another page and has not ended, and no plan is open, but no group has a page
abbrev pub MeetsNothing : PoolState → ShardState → Type 0
MeetsNothing pool shard = (shard.page_limit ≢ length shard.groups) × (shard.ended ≡ false)
    × (pool.has_plan ≡ false) × HasNothingToAdopt pool
