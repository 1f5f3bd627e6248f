-- The groups of the pool, each at the place of its head. No public clause cites this module.
use Rattle.std.specs.Prelude.{◌≡◌, ℕ, ◌-◌, Bool, List, Option, None, Some, Result, IfOk, insert, remove, slice_get, slice_set}
use Rattle.std.specs.Bool.{OnTrue}
use Rattle.span.specs.declared.id.SpanId.{SpanId}
use Rattle.span.specs.State.{SpanState}
use Rattle.pool.specs.Calls.{GivesUp}
use Rattle.pool.specs.State.{PooledState}
use Rattle.groups.specs.Group.{HasNoHead, IsHeadOf, IsHere, IsPlaceFor, spans_of, with_span}

-- groups by ascending head, and for how many more there is reserved room
pub record GroupsState : Type 0 where
  pub groups : List PooledState
  pub room : ℕ

-- the groups with another one at the index
abbrev pub with_group : GroupsState → ℕ → PooledState → GroupsState
with_group groups index group = record groups { groups = slice_set groups.groups index group }

-- the group has this head, and is one of these
abbrev pub HasHeadAt : List PooledState → SpanId → PooledState → Type 0
HasHeadAt groups head group = (index : ℕ) × IsHeadOf groups head index group

-- the span of this id stands at the place of the group, which is one of these
abbrev pub HasAtPlace : List PooledState → SpanId → ℕ → PooledState → Type 0
HasAtPlace groups id place group = (index : ℕ) × (span : SpanState)
    × IsHere groups id index place group span

-- this holds of the span at the place of the head's group
abbrev pub OfMember : List PooledState → SpanId → ℕ → (ℕ → PooledState → SpanState → Type 0)
    → Type 0
OfMember groups head place P = (index : ℕ) (group : PooledState) (span : SpanState)
    → IsHeadOf groups head index group → slice_get (spans_of group) place ≡ Some span
    → P index group span

-- this holds if the answer is that it was done
abbrev pub OnDone : {E : Type 0} → Result Bool E → Type 0 → Type 0
OnDone answer P = IfOk answer (λ done. OnTrue done P)

-- the group comes to the place of its head, in reserved room
abbrev pub Inserts : GroupsState → PooledState → GroupsState → Type 0
Inserts old group new = (index : ℕ) × IsPlaceFor old.groups group.head.id index
    × (new ≡ record { groups = insert old.groups index group; room = old.room - 1 })

-- the group of the head goes, where it is here, and all else stays
abbrev pub Removes : GroupsState → SpanId → Option PooledState → GroupsState → Type 0
Removes old head None new = HasNoHead old.groups head × (new ≡ old)
Removes old head (Some group) new = (index : ℕ) × IsHeadOf old.groups head index group
    × (new ≡ record old { groups = remove old.groups index })

-- the group has another span at the place, and has given its page up if no slot is live
abbrev pub FreesAt : PooledState → ℕ → SpanState → PooledState → Type 0
FreesAt group place span now = GivesUp (with_span group place span) now

-- the group at the index has another span at the place, has given its page up if no slot is live,
-- and all else stays
abbrev pub FreesIn : GroupsState → ℕ → PooledState → ℕ → SpanState → GroupsState → Type 0
FreesIn old index group place span new = (now : PooledState) × FreesAt group place span now
    × (new ≡ with_group old index now)
