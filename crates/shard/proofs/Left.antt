-- A shard whose groups leave one after another, and whose places go at once.
use Rattle.std.proofs.Common.{zero, suc, ◌≡◌, ℕ, ◌<◌, ◌≤◌, Bool, true, false, cond, ◌&&◌, not, List, [], ◌∷◌, length, length-set, None, Option, Some, set, slice_get, ◌∙◌, ap, sym, subst, refl, inl, inr, arith, rules}
use Rattle.std.specs.Prelude.{count_by, is_some, nat_eq, remove}
use Rattle.std.specs.List.{filter, list_any}
use Rattle.std.proofs.lemmas.Bool.{cases_Bool, false_from_ne_true, ne_eqb, true≢false}
use Rattle.std.proofs.lemmas.List.Folds.{list_any_at}
use Rattle.std.proofs.lemmas.List.Sums.{count_by-le-length, length-filter}
use Rattle.std.proofs.lemmas.Option.{get_or_from_slice_get, none-some, slice_get_within}
use Rattle.span.specs.Ids.{rank, same_span}
use Rattle.span.specs.State.{SpanState}
use Rattle.span.specs.declared.class.Class.{Class}
use Rattle.span.specs.declared.id.SpanId.{SpanId}
use Rattle.groups.specs.Directory.{Entries, KnowsGuests, struck}
use Rattle.groups.specs.Group.{HasNoHead, IsHeadOf, spans_in, spans_of}
use Rattle.groups.specs.Sound.{IsSoundGroup}
use Rattle.groups.proofs.GroupSpans.{count-spans_insert, count-spans_remove, times}
use Rattle.groups.proofs.KnownGuests.{KnowsGuests-remove}
use Rattle.groups.proofs.Lists.{before-set, cases-set, count-append, count-cons, same_some}
use Rattle.groups.proofs.Removed.{set-insert}
use Rattle.groups.proofs.ReplacedGroups.{AreSoundGroups-replaced}
use Rattle.shard.specs.Group.{GroupState}
use Rattle.shard.specs.Leaving.{has_left, has_stayed, left_place, swept}
use Rattle.shard.specs.Moves.{HasGuestRoom}
use Rattle.shard.specs.Sound.{IsSound}
use Rattle.shard.specs.State.{ShardState}
use Rattle.shard.proofs.KnownGuests.{KnowsGuests-alone}
use Rattle.shard.proofs.PutInNew.{IsSoundGroup-empty}
use Rattle.shard.proofs.Sparse.{after-filter, before-filter, filter-no, filter-yes, one_index, pairs-filter}

-- ---- a list without what fails a test

-- an element that passes goes by one that fails
filter-gone : {X : Type 0} (p : X → Bool) (xs : List X) (at : ℕ) (x y : X) → slice_get xs at ≡ Some x → p x ≡ true → p y ≡ false
    → (now : ℕ) × (slice_get (filter p xs) now ≡ Some x) × (filter p (set xs at y) ≡ remove (filter p xs) now)
filter-gone p [] at x y here is no_y = absurd cc
filter-gone p (z ∷ xs) zero x y here is no_y =
    let first = filter-yes p z xs (ap p (same_some here) ∙ is) in (
      0,
      ap (λ zs. slice_get zs 0) first ∙ here,
      filter-no p y xs no_y ∙ sym (ap (λ zs. remove zs 0) first),
    )
filter-gone p (z ∷ xs) (suc at) x y here is no_y =
    let (now, there, after) = filter-gone p xs at x y here is no_y in
    elim (cases_Bool (p z)) [
      | inl stays ↦ (
        suc now,
        ap (λ zs. slice_get zs (suc now)) (filter-yes p z xs stays) ∙ there,
        filter-yes p z (set xs at y) stays ∙ ap (λ zs. z ∷ zs) after ∙ sym (ap (λ zs. remove zs (suc now)) (filter-yes p z xs stays)),
      )
      | inr goes ↦ (
        now,
        ap (λ zs. slice_get zs now) (filter-no p z xs goes) ∙ there,
        filter-no p z (set xs at y) goes ∙ after ∙ sym (ap (λ zs. remove zs now) (filter-no p z xs goes)),
      )
    ]

filter-all : {X : Type 0} (p : X → Bool) (xs : List X) → ((at : ℕ) (x : X) → slice_get xs at ≡ Some x → p x ≡ true) → filter p xs ≡ xs
filter-all p [] all = refl
filter-all p (x ∷ xs) all = filter-yes p x xs (all 0 x refl) ∙ ap (λ zs. x ∷ zs) (filter-all p xs (λ at y there. all (suc at) y there))

pub length-stayed : (groups : List GroupState) → length (filter has_stayed groups) ≤ length groups
length-stayed groups = omega (arith, length-filter has_stayed groups, count_by-le-length has_stayed groups)

-- ---- where nothing is closed nothing has left

not_any : (groups : List GroupState) → list_any (λ group. group.closed) groups ≡ false → (at : ℕ) (group : GroupState) → slice_get groups at ≡ Some group → group.closed ≡ false
not_any groups none at group there =
    false_from_ne_true group.closed
    (λ is. true≢false (sym (list_any_at (λ (g : GroupState). g.closed) groups at group (slice_get_within groups at group there)
    (ap (λ (g : GroupState). g.closed) (get_or_from_slice_get groups at group group there) ∙ is)) ∙ none))

stayed-open : (group : GroupState) → group.closed ≡ false → has_stayed group ≡ true
stayed-open group is = rw is refl

pub swept-open : (shard : ShardState) → list_any (λ group. group.closed) shard.groups ≡ false → swept shard ≡ shard
swept-open shard none = ap (λ (groups : List GroupState). record shard { groups = groups })
    (filter-all has_stayed shard.groups (λ at group there. stayed-open group (not_any shard.groups none at group there)))

-- ---- the places go

times-stayed : (id : SpanId) (groups : List GroupState) → times id (spans_in (filter has_stayed groups)) ≤ times id (spans_in groups)
times-stayed id [] = omega arith
times-stayed id (g ∷ groups) =
    let rest = times-stayed id groups in
    let all = count-append (λ (s : SpanState). same_span s.id id) (spans_of g) (spans_in groups) in
    elim (cases_Bool (has_stayed g)) [
      | inl is ↦ omega (arith, count-append, ap (λ gs. times id (spans_in gs)) (filter-yes has_stayed g groups is))
      | inr is ↦ omega (arith, rest, all, ap (λ gs. times id (spans_in gs)) (filter-no has_stayed g groups is))
    ]

pub IsSound-swept : (shard : ShardState) → IsSound shard → IsSound (swept shard)
IsSound-swept shard sound = record {
  ascending = pairs-filter (λ (a b : GroupState). rank a.head.id < rank b.head.id) has_stayed shard.groups sound.ascending;
  groups = λ at group there. let was = before-filter has_stayed shard.groups at group there in sound.groups was.0 group was.1;
  once = λ id. omega (arith, sound.once id, times-stayed id shard.groups);
  limit = omega (arith, sound.limit, length-stayed shard.groups);
  serials = λ index place group span stands own. let was = before-filter has_stayed shard.groups index group stands.0 in sound.serials was.0 place group span (was.1, stands.1) own;
  opened = sound.opened;
  span_limit = sound.span_limit;
  gens = sound.gens;
  none_left = λ ended. ap (filter has_stayed) (sound.none_left ended);
}

pub KnowsGuests-swept : (groups : List GroupState) (entries : Entries) → KnowsGuests groups entries → KnowsGuests (filter has_stayed groups) entries
KnowsGuests-swept groups entries knows = record {
  known = λ index place group guest here there. let was = before-filter has_stayed groups index group here in knows.known was.0 place group guest was.1 there;
  only = λ number at found.
      let was = knows.only number at found in
      let now = after-filter has_stayed groups was.index was.group was.group_is (with_guest was.group was.place was.guest was.guest_is) in
      record {
        index = now.0;
        place = was.place;
        group = was.group;
        guest = was.guest;
        group_is = now.1;
        guest_is = was.guest_is;
        rank_is = was.rank_is;
        head_is = was.head_is;
        place_is = was.place_is;
      };
}
  where
    some_length : (guests : List SpanState) (place : ℕ) (guest : SpanState) → slice_get guests place ≡ Some guest → nat_eq (length guests) 0 ≡ false
    some_length [] place guest there = absurd cc
    some_length (g ∷ guests) place guest there = ne_eqb (length (g ∷ guests)) 0 (λ e. absurd (omega (arith, e)))

    with_guest : (group : GroupState) (place : ℕ) (guest : SpanState) → slice_get group.guests place ≡ Some guest → has_stayed group ≡ true
    with_guest group place guest there = rw (some_length group.guests place guest there)
        (elim group.closed as (λ b. not (b && (not (is_some group.page) && false))
        ≡ true) [ true ↦ elim (is_some group.page) as (λ b. not (not b && false) ≡ true) [ true ↦ refl | false ↦ refl ] | false ↦ refl ])

pub HasGuestRoom-swept : (groups : List GroupState) (onto : Option SpanId) (more room : ℕ) → HasGuestRoom groups onto more room → HasGuestRoom (filter has_stayed groups) onto more room
HasGuestRoom-swept groups onto more room has head is index group here =
    let was = before-filter has_stayed groups index group here.here in has head is was.0 group (record { here = was.1; head_is = here.head_is })

-- ---- a group leaves its place

module _ (old : ShardState) (sound : IsSound old) (index : ℕ) (group : GroupState) (here : slice_get old.groups index ≡ Some group) (class : Class) where
  abbrev pub place : GroupState
  place = left_place group.head.id class old.gens

  abbrev groups_now : List GroupState
  groups_now = set old.groups index place

  -- what stands now stood before under the same head
  headed : (at : ℕ) (g : GroupState) → slice_get groups_now at ≡ Some g → (was : GroupState) × (slice_get old.groups at ≡ Some was) × (was.head.id ≡ g.head.id)
  headed = before-set (λ (a b : GroupState). a.head.id ≡ b.head.id) (λ a. refl) old.groups index group place here refl

  once_now : (id : SpanId) → times id (spans_in groups_now) ≤ 1
  once_now id =
      let p : SpanState → Bool = λ s. same_span s.id id in
      let none : count_by p [] ≡ 0 = refl in
      let head : cond {A = ℕ} (p place.head) 1 0 ≡ cond {A = ℕ} (p group.head) 1 0 = refl in
      omega (
        arith,
        sound.once id,
        head,
        ap (λ gs. times id (spans_in gs)) (set-insert old.groups index group place here),
        count-spans_insert spans_of p (remove old.groups index) index place,
        count-spans_remove spans_of p old.groups index group here,
        count-cons p place.head [],
        count-cons p group.head group.guests,
        none,
      )

  pub IsSound-left : IsSound (record old { onto = None; groups = groups_now })
  IsSound-left = record {
    ascending = λ low high a b less at_low at_high.
        let (was_a, there_a, id_a) = headed low a at_low in
        let (was_b, there_b, id_b) = headed high b at_high in
        omega (arith, sound.ascending low high was_a was_b less there_a there_b, ap rank id_a, ap rank id_b);
    groups = AreSoundGroups-replaced old.groups index place sound.groups (sound_place (IsSoundGroup-empty group.head.id class old.gens));
    once = once_now;
    limit = rw (length-set old.groups index place) sound.limit;
    serials = λ at_group at g s stands own. elim (cases-set old.groups index place at_group g stands.0) [
      | inl this ↦ of_place at s own (ap (λ (x : GroupState). slice_get (spans_of x) at) this.1 ∙ stands.1)
      | inr other ↦ sound.serials at_group at g s (other.1, stands.1) own
    ];
    opened = sound.opened;
    span_limit = sound.span_limit;
    gens = sound.gens;
    none_left = λ ended. absurd (none-some group (ap (λ gs. slice_get gs index) (sym (sound.none_left ended)) ∙ here));
  }
    where
      sound_place : IsSoundGroup (record place { closed = false }) → IsSoundGroup place
      sound_place is = record { apart = is.apart; legal = is.legal; classes = is.classes; page = is.page }

      of_place : (at : ℕ) (s : SpanState) → s.id.shard ≡ old.number → slice_get (spans_of place) at ≡ Some s → s.id.serial < old.opened
      of_place zero s own there =
          let same = ap (λ (x : SpanState). x.id) (same_some there) in
          let less = sound.serials index 0 group group.head (here, refl) (ap (λ (i : SpanId). i.shard) same ∙ own) in
          omega (arith, less, ap (λ (i : SpanId). i.serial) same)
      of_place (suc at) s own there = absurd cc

  pub KnowsGuests-left : (entries : Entries) → KnowsGuests old.groups entries → KnowsGuests groups_now (struck entries group.guests)
  KnowsGuests-left entries knows =
      subst (λ gs. KnowsGuests gs (struck entries group.guests)) (sym (set-insert old.groups index group place here))
      (KnowsGuests-alone (remove old.groups index) (struck entries group.guests) (KnowsGuests-remove old.groups entries knows sound.ascending index group here) index place
      (within_removed old.groups index group here) refl)
    where
      within_removed : (groups : List GroupState) (index : ℕ) (group : GroupState) → slice_get groups index ≡ Some group → index ≤ length (remove groups index)
      within_removed [] index group here = absurd cc
      within_removed (g ∷ groups) zero group here = omega arith
      within_removed (g ∷ groups) (suc index) group here = let rest = within_removed groups index group here in omega arith

  -- without the places the group leaves the list
  pub stayed-left : (head : SpanId) → group.head.id ≡ head → has_left group ≡ false
      → (now : ℕ) × IsHeadOf (filter has_stayed old.groups) head now group × (filter has_stayed groups_now ≡ remove (filter has_stayed old.groups) now)
  stayed-left head head_is stayed =
      let (now, there, after) = filter-gone has_stayed old.groups index group place here (ap not stayed) refl in (now, record { here = there; head_is = head_is }, after)

  -- the head of a group that has left is that of no other
  pub HasNoHead-left : (head : SpanId) → group.head.id ≡ head → has_left group ≡ true → HasNoHead (filter has_stayed old.groups) head
  HasNoHead-left head head_is gone at other there = search (rules, before-filter, one_index, same_some, true≢false)

pub HasNoHead-swept : (groups : List GroupState) (head : SpanId) → HasNoHead groups head → HasNoHead (filter has_stayed groups) head
HasNoHead-swept groups head none at group there = let was = before-filter has_stayed groups at group there.here in none was.0 group (record { here = was.1; head_is = there.head_is })
