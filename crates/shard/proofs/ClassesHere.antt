-- The sets of the classes of groups have room, also where groups come, change and go.
use Rattle.std.proofs.Common.{◌≡◌, ◌∙◌, ℕ, ◌<◌, ◌≤◌, ◌*◌, ◌/◌, ◌++◌, ◌∷◌, [], List, Some, true, ap, arith, inl, inr, insert, length, map, refl, set, slice_get, sym, rules}
use Rattle.std.specs.FinSet.{contains}
use Rattle.std.specs.List.{filter}
use Rattle.std.specs.Prelude.{remove}
use Rattle.std.proofs.lemmas.Option.{slice_get_cases}
use Rattle.bitmap.specs.Numbers.{NumbersState}
use Rattle.span.specs.declared.class.Class.{Class}
use Rattle.groups.proofs.Lists.{before-map, cases-insert, cases-set, get_left}
use Rattle.groups.proofs.Removed.{before-remove}
use Rattle.shard.specs.Group.{GroupState}
use Rattle.shard.specs.Leaving.{has_stayed}
use Rattle.shard.specs.Rooms.{HasRooms, HaveRoom, room_of, rooms_of}
use Rattle.shard.proofs.Sparse.{before-filter}

some_here : (groups : List GroupState) (n : ℕ) → n < length groups → (group : GroupState) × (slice_get groups n ≡ Some group)
some_here groups n low = elim (slice_get_cases groups n).1 [
  | inl it ↦ (it.0, it.2)
  | inr past ↦ absurd (omega (arith, low, past.0))
]

module _ (groups : List GroupState) (rooms : List NumbersState) (count : ℕ) (has : HaveRoom groups rooms count) where
  -- each group now is of the class of one that was there
  pub HaveRoom-from : (now : List GroupState) (after : List NumbersState) (fewer : ℕ) → fewer ≤ count → ((class : Class) → room_of rooms class ≤ room_of after class)
      → ((index : ℕ) (group : GroupState) → slice_get now index ≡ Some group → (at : ℕ) × (was : GroupState) × (slice_get groups at ≡ Some was) × (was.head.class ≡ group.head.class))
      → HaveRoom now after fewer
  HaveRoom-from now after fewer low more each index group there =
      let was = each index group there in
      omega (arith, low, has was.0 was.1 was.2, ap (room_of rooms) was.3, more group.head.class)

  -- the groups are as they were
  pub HaveRoom-same : (now : List GroupState) → now ≡ groups → (after : List NumbersState) (fewer : ℕ) → fewer ≤ count → ((class : Class) → room_of rooms class ≤ room_of after class) → HaveRoom now after fewer
  HaveRoom-same now same after fewer low more = HaveRoom-from now after fewer low more (λ index group there. (index, group, ap (λ gs. slice_get gs index) (sym same) ∙ there, refl))

  -- one has become another of its class
  pub HaveRoom-set : (index : ℕ) (group now : GroupState) → slice_get groups index ≡ Some group → now.head.class ≡ group.head.class → (after : List NumbersState) (fewer : ℕ) → fewer ≤ count
      → ((class : Class) → room_of rooms class ≤ room_of after class) → HaveRoom (set groups index now) after fewer
  HaveRoom-set index group now here same after fewer low more = search (rules, HaveRoom-from, cases-set)

  -- all have become others of their classes
  pub HaveRoom-map : (f : GroupState → GroupState) → ((group : GroupState) → (f group).head.class ≡ group.head.class) → (after : List NumbersState) (fewer : ℕ) → fewer ≤ count
      → ((class : Class) → room_of rooms class ≤ room_of after class) → HaveRoom (map f groups) after fewer
  HaveRoom-map f same after fewer low more = HaveRoom-from (map f groups) after fewer low more (λ q other there.
      let before = before-map f groups q other there in
      (q, before.0, before.1, sym (same before.0) ∙ ap (λ (g : GroupState). g.head.class) before.2))

  -- one has left
  pub HaveRoom-remove : (index : ℕ) (after : List NumbersState) (fewer : ℕ) → fewer ≤ count → ((class : Class) → room_of rooms class ≤ room_of after class) → HaveRoom (remove groups index) after fewer
  HaveRoom-remove index after fewer low more = HaveRoom-from (remove groups index) after fewer low more (λ q other there.
      let before = before-remove groups index q other there in
      (before.0, other, before.2, refl))

  -- the places of those that have left have gone
  pub HaveRoom-swept : (after : List NumbersState) (fewer : ℕ) → fewer ≤ count → ((class : Class) → room_of rooms class ≤ room_of after class) → HaveRoom (filter has_stayed groups) after fewer
  HaveRoom-swept after fewer low more = HaveRoom-from (filter has_stayed groups) after fewer low more (λ q other there.
      let was = before-filter has_stayed groups q other there in
      (was.0, other, was.1, refl))

  -- one has come, whose class has room
  pub HaveRoom-insert : (index : ℕ) (group : GroupState) → index ≤ length groups → 4 * count ≤ room_of rooms group.head.class → HaveRoom (insert groups index group) rooms count
  HaveRoom-insert index group within enough q other there = elim (cases-insert groups index group within q other there) [
    | inl low ↦ has q other low.1
    | inr (inl here) ↦ omega (arith, enough, ap (λ (g : GroupState). room_of rooms g.head.class) here.1)
    | inr (inr high) ↦ has high.0 other high.3
  ]

  -- a class of which a number is noted is that of a group
  pub HaveRoom-noted : {slot_limit : ℕ} (class : Class) → HasRooms slot_limit class groups (rooms_of rooms class) → (n : ℕ) → contains (rooms_of rooms class) n ≡ true → 4 * count ≤ room_of rooms class
  HaveRoom-noted {slot_limit} class noted n member =
      let it = some_here groups (n / 4) (noted.within n member) in
      omega (arith, has (n / 4) it.0 it.1, ap (room_of rooms) (noted.of_class n it.0 it.1 member))

pub HaveRoom-none : (groups : List GroupState) → groups ≡ [] → (rooms : List NumbersState) (count : ℕ) → HaveRoom groups rooms count
HaveRoom-none groups none rooms count index group there = absurd (let e = ap (λ gs. slice_get gs index) (sym none) ∙ there in cc)

-- the last has left
pub HaveRoom-less : (groups rest : List GroupState) (last : GroupState) → groups ≡ rest ++ last ∷ [] → (rooms : List NumbersState) (count : ℕ) → HaveRoom groups rooms count
    → (after : List NumbersState) (fewer : ℕ) → fewer ≤ count → ((class : Class) → room_of rooms class ≤ room_of after class) → HaveRoom rest after fewer
HaveRoom-less groups rest last is rooms count has after fewer low more = HaveRoom-from groups rooms count has rest after fewer low more
    (λ index group there. (index, group, ap (λ gs. slice_get gs index) is ∙ get_left rest (last ∷ []) index group there, refl))
