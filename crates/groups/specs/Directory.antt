-- Where guests stand: the heads of their groups, and their places there.
use Rattle.std.specs.Prelude.{suc, ◌≡◌, ℕ, ◌+◌, ◌-◌, List, [], ◌∷◌, Some, drop, length, slice_get, refl}
use Rattle.std.specs.Coded.{Coded, code_by, coded×, coded_ℕ}
use Rattle.std.specs.Ordering.{nat_cmp}
use Rattle.std.specs.FinMap as map
use Rattle.span.specs.declared.id.SpanId.{SpanId}
use Rattle.span.specs.Ids.{rank}
use Rattle.span.specs.State.{SpanState}
use Rattle.groups.specs.Group.{Group}
use Rattle.groups.specs.declared.directory.Place.{Place}

-- for guests, by rank, where they stand
abbrev pub Entries : Type 0
Entries = map.FinMap nat_cmp Place

-- the entries of a directory, and for how many more there is reserved room
pub record DirectoryState : Type 0 where
  pub entries : Entries
  pub room : ℕ

-- a directory is stored as the pair of its fields
abbrev pub directory_code : Coded Place → Coded DirectoryState
directory_code place = code_by (Entries × ℕ) (coded× (map.code coded_ℕ place) coded_ℕ)
    (λ d. (d.entries, d.room)) (λ p. record { entries = p.0; room = p.1 }) (λ _. refl)

-- the directory of the entries, with reserved room for that many more
abbrev pub directory_of : Entries → ℕ → DirectoryState
directory_of entries room = record { entries = entries; room = room }

-- the directory with these entries, and the reserved room that it has
abbrev pub with_entries : DirectoryState → Entries → DirectoryState
with_entries directory entries = record directory { entries = entries }

-- the entries, of which that of the guest says now that it stands at the place of the head's group
abbrev pub with_guest : Entries → SpanId → SpanId → ℕ → Entries
with_guest entries guest head place =
    map.insert entries (rank guest) (record { head = head; place = place })

-- with the spans entered, one after another, as guests of the head from this place on
abbrev pub entered : Entries → List SpanState → SpanId → ℕ → Entries
entered entries [] head place = entries
entered entries (span ∷ spans) head place =
    entered (with_guest entries span.id head place) spans head (suc place)

-- the directory with the guests of the head entered from the place on, counted from 0, in reserved
-- room
abbrev pub entered_from : DirectoryState → ℕ → List SpanState → SpanId → DirectoryState
entered_from directory first guests head = directory_of
    (entered directory.entries (drop first guests) head (first + 1))
    (directory.room + first - length guests)

-- without the entries of the spans
abbrev pub struck : Entries → List SpanState → Entries
struck entries [] = entries
struck entries (span ∷ spans) = struck (map.remove entries (rank span.id)) spans

-- a guest of this rank stands there: a head stands at place 0, and its guests follow
pub record IsGuestAt {G : Type 0} (head_of : G → SpanId) (guests_of : G
    → List SpanState) (groups : List G) (number : ℕ) (at : Place) : Type 0 where
  pub index : ℕ
  pub place : ℕ
  pub group : G
  pub guest : SpanState
  pub group_is : slice_get groups index ≡ Some group
  pub guest_is : slice_get (guests_of group) place ≡ Some guest
  pub rank_is : rank guest.id ≡ number
  pub head_is : at.head ≡ head_of group
  pub place_is : at.place ≡ suc place

-- the entries say of each guest of the groups where it stands, and of no other span
pub record IsDirectory {G : Type 0} (head_of : G → SpanId) (guests_of : G
    → List SpanState) (groups : List G) (entries : Entries) : Type 0 where
  pub known : (index place : ℕ) (group : G) (guest : SpanState)
      → slice_get groups index ≡ Some group → slice_get (guests_of group) place ≡ Some guest
      → map.get entries (rank guest.id) ≡ Some (record { head = head_of group; place = suc place })
  pub only : (number : ℕ) (at : Place) → map.get entries number ≡ Some at
      → IsGuestAt head_of guests_of groups number at

-- the entries say where each guest of the groups stands
abbrev pub KnowsGuests : {Closed : Type 0} → List (Group Closed) → Entries → Type 0
KnowsGuests groups entries = IsDirectory (λ group. group.head.id) (λ group. group.guests) groups
    entries
