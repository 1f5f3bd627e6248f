-- What a shard keeps of guests, where it never had one.
use Rattle.std.proofs.Common.{◌≡◌, ◌≤◌, ◌∙◌, ℕ, Bool, true, false, cond, eqb, List, [], ◌∷◌, is_some, None, Option, option_map, unwrap_or, refl, ap, arith, rules, slice_get, Some, sym, subst}
use Rattle.std.specs.FinMap as map
use Rattle.std.specs.Ordering.{nat_cmp}
use Rattle.groups.proofs.GuestDirectory.{IsDirectory-none}
use Rattle.groups.proofs.Maps.{get-remove, same_nat_map}
use Rattle.groups.specs.Dead.{AreEntered}
use Rattle.groups.specs.Directory.{Entries, KnowsGuests, entered, struck, with_entries}
use Rattle.groups.specs.declared.directory.Place.{Place}
use Rattle.shard.specs.Group.{GroupState}
use Rattle.shard.specs.Guests.{GuestsState, KeepsRoom, no_guests}
use Rattle.shard.specs.Moves.{HasGuestRoom}
use Rattle.shard.proofs.GuestRoom.{HasGuestRoom-none}
use Rattle.span.specs.Ids.{rank}
use Rattle.span.specs.State.{SpanState}
use Rattle.span.specs.declared.id.SpanId.{SpanId}

-- nothing is struck where there is nothing
abbrev nothing : Entries
nothing = map.empty

none_at : (q : ℕ) (b : Bool) → cond b None (map.get nothing q) ≡ map.get nothing q
none_at q true = sym (map.get-empty nat_cmp q)
none_at q false = refl

remove-none : (number : ℕ) → map.remove nothing number ≡ nothing
remove-none number = same_nat_map (map.remove nothing number) nothing (λ q. get-remove nothing number q ∙ none_at q (eqb q number))

pub struck-none : (guests : List SpanState) → struck map.empty guests ≡ map.empty
struck-none [] = refl
struck-none (guest ∷ guests) = ap (λ (entries : Entries). struck entries guests) (remove-none (rank guest.id)) ∙ struck-none guests

-- and where none has an entry there is none to move
pub entered-none : (guests : List SpanState) → AreEntered map.empty guests → (head : SpanId) (place : ℕ) → entered map.empty guests head place ≡ map.empty
entered-none [] are head place = refl
entered-none (guest ∷ guests) are head place = absurd (let some = sym (ap is_some (map.get-empty nat_cmp (rank guest.id))) ∙ are 0 guest refl in cc)

module _ (now : GuestsState) (bare : now ≡ no_guests) where
  pub directory-struck_none : (guests : List SpanState) → now.directory ≡ with_entries now.directory (struck now.directory.entries guests)
  directory-struck_none guests = rw (bare, struck-none guests) refl

  pub guests-moved_none : (guests : List SpanState) (head : SpanId) → AreEntered now.directory.entries guests
      → now ≡ record now { directory = with_entries now.directory (entered now.directory.entries guests head 1) }
  guests-moved_none guests head are =
      let none : entered map.empty guests head 1 ≡ map.empty = entered-none guests (subst (λ (g : GuestsState). AreEntered g.directory.entries guests) bare are) head 1 in
      rw (bare, none) refl

-- a box that is not there has no guest
pub bare-unmade : {X : Type 0} (value : X → GuestsState) (late : Option X) → late ≡ None → (now : GuestsState) → unwrap_or (option_map value late) no_guests ≡ now → now ≡ no_guests
bare-unmade value late none now is = sym is ∙ ap (λ o. unwrap_or (option_map value o) no_guests) none

-- a shard with no group and no guest
pub record IsBare (groups : List GroupState) (guests : GuestsState) : Type 0 where
  pub room : HasGuestRoom groups guests.onto guests.span_room guests.list_room
  pub known : KnowsGuests groups guests.directory.entries
  pub entries : guests.span_room ≤ guests.directory.room
  pub empty : guests.directory.entries ≡ map.empty
  pub unnamed : (head : SpanId) → guests.onto ≡ Some head → ⊥

pub bare-none : (groups : List GroupState) → groups ≡ [] → (guests : GuestsState) → guests ≡ no_guests → IsBare groups guests
bare-none groups none guests bare = rw bare (record {
  room = HasGuestRoom-none _ _ _;
  known = IsDirectory-none _ _ groups _ none refl;
  entries = omega arith;
  empty = refl;
  unnamed = λ head named. absurd cc;
})

-- the room is as it was, twice
pub KeepsRoom-twice : (first second third : GuestsState) → KeepsRoom first second → KeepsRoom second third → KeepsRoom first third
KeepsRoom-twice first second third before after = record {
  span_room = after.span_room ∙ before.span_room;
  onto = after.onto ∙ before.onto;
  list_room = after.list_room ∙ before.list_room;
}
