-- Where the spans that a shard opened are. No public clause cites this module.
use Rattle.std.specs.Prelude.{◌≡◌, ℕ, ◌+◌, ◌-◌, ◌*◌, ◌%◌, ◌<◌, ◌≤◌, ◌==◌, ◌&&◌, List, None, Option, Some, if◌then◌else◌, insert, length, nat_le, nat_lt, slice_get}
use Rattle.std.specs.FinMap as finite
use Rattle.groups.specs.Directory.{Entries}
use Rattle.groups.specs.Group.{Ascend, HasNoHead}
use Rattle.groups.specs.declared.directory.Place.{Place}
use Rattle.span.specs.Ids.{rank}
use Rattle.span.specs.State.{SpanState}
use Rattle.span.specs.declared.id.SpanId.{SpanId}
use Rattle.span.specs.declared.limits.TheConstants.{MOST_PAGES}
use Rattle.shard.specs.declared.head_indexes.TheConstants.{AWAY, FAR, HEADS, PLACES}
use Rattle.shard.specs.Group.{GroupState}
use Rattle.shard.specs.HeadWindow.{HeadWindow, end_of, entry_of, note_in}

-- the span was opened by the shard of this number, and is not below the base of its window
abbrev pub IsNoted : ℕ → ℕ → SpanId → Type 0
IsNoted number base id = (id.shard ≡ number) × (base ≤ id.serial)

-- the serial is not that of the span, if the shard of this number opened it
abbrev pub IsOther : ℕ → SpanId → ℕ → Type 0
IsOther number id serial = id.shard ≡ number → serial ≡ id.serial → ⊥

-- for each such head, below the index, its index is noted under its serial
abbrev pub KnowsBelow : ℕ → List GroupState → HeadWindow → ℕ → Type 0
KnowsBelow number groups window below = (index : ℕ) (group : GroupState) → index < below
    → slice_get groups index ≡ Some group → IsNoted number window.base group.head.id
    → entry_of window group.head.id.serial ≡ Some index

-- for each such head its index is noted under its serial
abbrev pub KnowsHeads : ℕ → List GroupState → HeadWindow → Type 0
KnowsHeads number groups window = (index : ℕ) (group : GroupState)
    → slice_get groups index ≡ Some group → IsNoted number window.base group.head.id
    → entry_of window group.head.id.serial ≡ Some index

-- so it is for each such head but that at the place
abbrev pub KnowsOthers : ℕ → List GroupState → HeadWindow → ℕ → Type 0
KnowsOthers number groups window place = (index : ℕ) (group : GroupState) → (index ≡ place → ⊥)
    → slice_get groups index ≡ Some group → IsNoted number window.base group.head.id
    → entry_of window group.head.id.serial ≡ Some index

-- the entry, one higher if it is the index of a group from this one on
abbrev pub raised : (from entry : ℕ) → ℕ
raised from entry = if nat_le from entry && nat_lt entry AWAY then entry + 1 else entry

-- the entry, one lower if it is the index of a group behind this one
abbrev pub lowered : (at entry : ℕ) → ℕ
lowered at entry = if nat_lt at entry && nat_lt entry AWAY then entry - 1 else entry

-- the serial of each such head is below the end of the window
abbrev pub FitHeads : ℕ → List GroupState → HeadWindow → Type 0
FitHeads number groups window = (index : ℕ) (group : GroupState)
    → slice_get groups index ≡ Some group → IsNoted number window.base group.head.id
    → group.head.id.serial < end_of window

-- the heads may be noted from the index on: those below are, there is room for the others, and
-- groups stand by ascending head
pub record AreReady (number : ℕ) (groups : List GroupState) (window : HeadWindow) (from : ℕ) :
    Type 0 where
  pub ascend : Ascend groups
  pub few : length groups ≤ MOST_PAGES
  pub fit : FitHeads number groups window
  pub below : KnowsBelow number groups window from

-- the entry of a guest: its place and the lowest bits of its head's serial; if another shard opened
-- its head, or its place is far behind, an index past all groups
abbrev pub note_at : ℕ → Place → ℕ
note_at number at = if (at.head.shard == number) && nat_lt 0 at.place && nat_lt at.place PLACES
    then at.place * HEADS + at.head.serial % HEADS else FAR

-- what is noted of a span that is no head, by its entry in the directory: without one it is away
abbrev pub note_for : ℕ → Option Place → ℕ
note_for number None = AWAY
note_for number (Some at) = note_at number at

-- of each span that the shard of this number opened, from the base on, and that is no head, it is
-- noted where the directory says that it is
abbrev pub KnowsNoHeads : ℕ → List GroupState → Entries → HeadWindow → Type 0
KnowsNoHeads number groups entries window = (id : SpanId) → IsNoted number window.base id
    → HasNoHead groups id
    → note_in window id.serial ≡ note_for number (finite.get entries (rank id))

-- notes of spans that are no heads follow a change of the directory
abbrev pub NotesFollow : ℕ → (old new : HeadWindow) → (Entries → Entries) → Type 0
NotesFollow number old new change = (groups : List GroupState) (entries : Entries)
    → KnowsNoHeads number groups entries old → KnowsNoHeads number groups (change entries) new

-- notes of spans that are no heads of these groups stay true
abbrev pub OthersStay : ℕ → List GroupState → (old new : HeadWindow) → Type 0
OthersStay number groups old new = (entries : Entries)
    → KnowsNoHeads number groups entries old → KnowsNoHeads number groups entries new

-- there is an entry for each of the guests from the place on that the shard of this number opened
abbrev pub HasNotesFor : ℕ → HeadWindow → ℕ → List SpanState → Type 0
HasNotesFor number window first guests = (place : ℕ) (guest : SpanState)
    → slice_get guests place ≡ Some guest → first ≤ place → IsNoted number window.base guest.id
    → guest.id.serial < end_of window

-- the directory has no entry of a head
abbrev pub HasNoHeadsOf : Entries → List GroupState → Type 0
HasNoHeadsOf entries groups = (index : ℕ) (group : GroupState)
    → slice_get groups index ≡ Some group → finite.get entries (rank group.head.id) ≡ None

-- what is found is the index that is noted for the serial with the lowest bits of the note, of the
-- first serials from the base on, if one is noted
abbrev pub LeadsTo : HeadWindow → (note found : ℕ) → Type 0
LeadsTo window note found = (serial index : ℕ) → window.base ≤ serial
    → serial < window.base + HEADS → serial % HEADS ≡ note % HEADS
    → entry_of window serial ≡ Some index → found ≡ index

-- heads that were noted are noted after a group came to the index, of so many groups then, but for
-- the head of that group
abbrev pub MakesPlace : ℕ → (index count : ℕ) → (old new : HeadWindow) → Type 0
MakesPlace number index count old new = (groups : List GroupState) (group : GroupState)
    → length groups + 1 ≡ count → KnowsHeads number groups old
    → KnowsOthers number (insert groups index group) new index

-- heads that were noted are noted after a group of this head came to the index, of so many groups
-- then, and so is this head, which has an entry if it is to be noted
abbrev pub KnowsArrival : ℕ → SpanId → (index count : ℕ) → (old new : HeadWindow) → Type 0
KnowsArrival number head index count old new = (groups : List GroupState) (group : GroupState)
    → length groups + 1 ≡ count → group.head.id ≡ head → HasNoHead groups head
    → (IsNoted number old.base head → head.serial < end_of old) → KnowsHeads number groups old
    → KnowsHeads number (insert groups index group) new
