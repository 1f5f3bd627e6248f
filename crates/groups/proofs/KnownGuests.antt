-- What a directory says of the guests of groups, before and after each change, and what a look-up makes of it.
use Rattle.std.proofs.Common.{◌≡◌, ℕ, ◌≤◌, List, length, insert, set, Option, Some, slice_get}
use Rattle.std.specs.FinMap as map
use Rattle.std.specs.Prelude.{count_by, remove}
use Rattle.span.specs.Ids.{rank, same_span}
use Rattle.span.specs.State.{SpanState}
use Rattle.span.specs.declared.id.SpanId.{SpanId}
use Rattle.groups.specs.Directory.{Entries, KnowsGuests, entered, struck}
use Rattle.groups.specs.Group.{Ascend, Group, HasNoHead, IsElsewhere, IsHeadOf, IsHere, spans_of}
use Rattle.groups.specs.declared.directory.Place.{Place}
use Rattle.groups.proofs.FoundGuests.{IsDirectory-come, IsDirectory-gone, found_nowhere, found_there, place_or_head}
use Rattle.groups.proofs.GuestDirectory.{IsDirectory-set}
use Rattle.groups.proofs.ReplacedGroups.{AreAlike, guests-alike, head-alike}
use Rattle.groups.proofs.Standing.{head_id}

module _ {Closed : Type 0} where
  abbrev pub guests_in : Group Closed → List SpanState
  guests_in group = group.guests

  abbrev pub head_in : Group Closed → SpanState
  head_in group = group.head

  -- the span of this id stands at this place of the group at this index
  abbrev pub Somewhere : List (Group Closed) → SpanId → ℕ → ℕ → Type 0
  Somewhere groups id index place = (group : Group Closed) × (span : SpanState) × IsHere groups id index place group span

  module _ (groups : List (Group Closed)) (entries : Entries) (knows : KnowsGuests groups entries) where
    -- a group whose spans have the same ids
    pub KnowsGuests-replaced : (index : ℕ) (before after : Group Closed) → slice_get groups index ≡ Some before → AreAlike before after → KnowsGuests (set groups index after) entries
    KnowsGuests-replaced index before after here ids = IsDirectory-set head_id guests_in groups entries knows index before after here (head-alike before after ids) (guests-alike before after ids)

    -- a group that goes
    pub KnowsGuests-remove : Ascend groups → (index : ℕ) (group : Group Closed) → slice_get groups index ≡ Some group → KnowsGuests (remove groups index) (struck entries group.guests)
    KnowsGuests-remove = IsDirectory-gone head_in guests_in groups entries knows

    -- a group that comes with its guests
    pub KnowsGuests-insert : (index : ℕ) (group : Group Closed) → index ≤ length groups → ((id : SpanId) → count_by (λ (s : SpanState). same_span s.id id) (spans_of group) ≤ 1)
        → ((place : ℕ) (span : SpanState) → slice_get (spans_of group) place ≡ Some span → IsElsewhere groups span.id)
        → KnowsGuests (insert groups index group) (entered entries group.guests group.head.id 1)
    KnowsGuests-insert = IsDirectory-come head_in guests_in groups entries knows

    -- a look-up
    module _ (id : SpanId) (entry : Option Place) (is : entry ≡ map.get entries (rank id)) (at : Place) (at_is : at ≡ place_or_head entry id) where
      pub Somewhere-guest : Ascend groups → (index : ℕ) (group : Group Closed) → IsHeadOf groups at.head index group → Somewhere groups id index at.place
      Somewhere-guest ascend index group here =
          let found = found_there head_in guests_in groups entries knows id entry is at at_is ascend index group (here.here, here.head_is) in
          (found.0, found.1, record { group_is = found.2; span_is = found.3; id_is = found.4 })

      pub IsElsewhere-guest : HasNoHead groups at.head → IsElsewhere groups id
      IsElsewhere-guest none = found_nowhere head_in guests_in groups entries knows id entry is at at_is (λ index group here. none index group (record { here = here.0; head_is = here.1 }))
