-- What can never be live again: a guest takes no put, so one in which no slot is live.
use Rattle.std.specs.Prelude.{◌≡◌, ℕ, Bool, true, List, Some, filter, is_some, nat_lt, not, slice_get}
use Rattle.std.specs.List.{flat_map}
use Rattle.std.specs.FinMap as map
use Rattle.std.specs.FinSet as set
use Rattle.span.specs.Ids.{rank}
use Rattle.span.specs.Log.{live_slots}
use Rattle.span.specs.State.{SpanState}
use Rattle.groups.specs.Directory.{Entries, entered, struck}
use Rattle.groups.specs.Group.{Group}

-- a slot of the span is live
abbrev pub is_live : SpanState → Bool
is_live span = nat_lt 0 (set.len (live_slots span.log))

-- no slot of the span is live
abbrev pub is_dead : SpanState → Bool
is_dead span = not (is_live span)

-- those of the spans in which a slot is live
abbrev pub live_among : List SpanState → List SpanState
live_among spans = filter is_live spans

-- and the others
abbrev pub dead_among : List SpanState → List SpanState
dead_among spans = filter is_dead spans

-- the group without its guests in which no slot is live
abbrev pub without_dead : {Closed : Type 0} → Group Closed → Group Closed
without_dead group = record group { guests = live_among group.guests }

-- the guests of the groups in which no slot is live, in order
abbrev pub dead_guests : {Closed : Type 0} → List (Group Closed) → List SpanState
dead_guests groups = flat_map (λ group. dead_among group.guests) groups

-- the entries after the group has forgotten its guests in which no slot is live: theirs are gone,
-- and those of the others say where they stand then
abbrev pub forgotten : {Closed : Type 0} → Entries → Group Closed → Entries
forgotten entries group = entered (struck entries (dead_among group.guests))
    (live_among group.guests) group.head.id 1

-- each of the spans has an entry
abbrev pub AreEntered : Entries → List SpanState → Type 0
AreEntered entries spans = (place : ℕ) (span : SpanState) → slice_get spans place ≡ Some span
    → is_some (map.get entries (rank span.id)) ≡ true
