-- What a shard keeps for guests and folds. No public clause cites this module.
use Rattle.std.specs.Prelude.{◌≡◌, ℕ, ◌≤◌, List, Option, None, refl}
use Rattle.std.specs.Coded.{Coded, code_by, coded×, coded_ℕ}
use Rattle.std.specs.FinMap as map
use Rattle.span.specs.declared.id.SpanId.{SpanId}
use Rattle.span.specs.State.{SpanState}
use Rattle.groups.specs.Directory.{DirectoryState, directory_code, directory_of, entered, with_entries}
use Rattle.groups.specs.declared.directory.Place.{Place}

-- where guests stand; for how many more spans room is reserved, for the guests of which group, and
-- how many a list has room for
pub record GuestsState : Type 0 where
  pub directory : DirectoryState
  pub span_room : ℕ
  pub onto : Option SpanId
  pub list_room : ℕ

-- it is stored as the tuple of its fields
abbrev pub guests_code : Coded Place → Coded (Option SpanId) → Coded GuestsState
guests_code place onto = code_by (DirectoryState × (ℕ × (Option SpanId × ℕ)))
    (coded× (directory_code place) (coded× coded_ℕ (coded× onto coded_ℕ)))
    (λ g. (g.directory, (g.span_room, (g.onto, g.list_room))))
    (λ p. record {
      directory = p.0;
      span_room = p.1.0;
      onto = p.1.1.0;
      list_room = p.1.1.1;
    }) (λ _. refl)

-- that of a shard which never had a guest
abbrev pub no_guests : GuestsState
no_guests = record {
  directory = directory_of map.empty 0;
  span_room = 0;
  onto = None;
  list_room = 0;
}

-- the guests, each of which has an entry, are those of the head, in this order
abbrev pub with_moved : GuestsState → List SpanState → SpanId → GuestsState
with_moved guests moved head = record guests {
  directory = with_entries guests.directory (entered guests.directory.entries moved head 1);
}

-- the directory has the same entries and no less room
pub record KeepsGuests (old new : GuestsState) : Type 0 where
  pub entries : new.directory.entries ≡ old.directory.entries
  pub room : old.directory.room ≤ new.directory.room

-- the room for spans is as it was
pub record KeepsRoom (old new : GuestsState) : Type 0 where
  pub span_room : new.span_room ≡ old.span_room
  pub onto : new.onto ≡ old.onto
  pub list_room : new.list_room ≡ old.list_room

-- there is room for that many spans, as guests of this group, if one is named, in a list of that
-- room
pub record HasReserved (spans : ℕ) (target : Option SpanId) (capacity : ℕ) (new : GuestsState)
    : Type 0 where
  pub span_room : new.span_room ≡ spans
  pub onto : new.onto ≡ target
  pub list_room : new.list_room ≡ capacity
  pub entries : spans ≤ new.directory.room
