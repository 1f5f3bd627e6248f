-- Groups of which only the page changes, or whether they take puts.
use Rattle.std.proofs.Common.{zero, suc, ◌≡◌, ℕ, ◌+◌, ◌≤◌, false, List, [], ◌∷◌, ◌++◌, length, Option, None, Some, slice_get, ◌∙◌, ap, sym, refl, subst, arith}
use Rattle.std.specs.Prelude.{map as map_list}
use Rattle.std.proofs.lemmas.List.{nil_from_length}
use Rattle.span.specs.Ids.{rank}
use Rattle.span.specs.declared.id.SpanId.{SpanId}
use Rattle.groups.specs.Group.{spans_in, spans_of}
use Rattle.groups.specs.Sound.{AreSoundGroups, IsSoundGroup}
use Rattle.groups.proofs.Lists.{before-map, same_some}
use Rattle.groups.proofs.Logged.{logged, nothing_pending}
use Rattle.groups.proofs.ShownGroups.{shown_by-logged}
use Rattle.shard.specs.Group.{GroupState}
use Rattle.shard.specs.Moves.{HasGuestRoom}
use Rattle.shard.specs.Shown.{shown}
use Rattle.shard.specs.Sound.{IsSound}
use Rattle.shard.specs.State.{ShardState}

-- the group without its page, as one that takes puts
abbrev pub bare : GroupState → GroupState
bare group = record group { page = None; closed = false }

-- the groups are the same, but for their pages and their flags
pub record AreAlike (old new : List GroupState) : Type 0 where
  pub stood : (index : ℕ) (group : GroupState) → slice_get new index ≡ Some group → (before : GroupState) × (slice_get old index ≡ Some before) × (bare group ≡ bare before)
  pub stands : (index : ℕ) (group : GroupState) → slice_get old index ≡ Some group → (now : GroupState) × (slice_get new index ≡ Some now) × (bare now ≡ bare group)
  pub spans : spans_in new ≡ spans_in old
  pub many : length new ≡ length old

first_of : {X : Type 0} (x y : X) (xs ys : List X) → x ∷ xs ≡ y ∷ ys → x ≡ y
first_of x y xs ys e = cc

rest_of : {X : Type 0} (x y : X) (xs ys : List X) → x ∷ xs ≡ y ∷ ys → xs ≡ ys
rest_of x y xs ys e = cc

pub alike : (old new : List GroupState) → map_list bare new ≡ map_list bare old → AreAlike old new
alike [] [] e = record { stood = λ index group there. absurd cc; stands = λ index group there. absurd cc; spans = refl; many = refl }
alike (x ∷ xs) (y ∷ ys) e =
    let head : bare y ≡ bare x = first_of (bare y) (bare x) (map_list bare ys) (map_list bare xs) e in
    let rest : AreAlike xs ys = alike xs ys (rest_of (bare y) (bare x) (map_list bare ys) (map_list bare xs) e) in
    record {
      stood = stood head rest;
      stands = stands head rest;
      spans = ap (λ (g : GroupState). spans_of g ++ spans_in ys) head ∙ ap (λ spans. spans_of x ++ spans) rest.spans;
      many = ap suc rest.many;
    }
  where
    stood : bare y ≡ bare x → AreAlike xs ys → (index : ℕ) (group : GroupState) → slice_get (y ∷ ys) index ≡ Some group
        → (before : GroupState) × (slice_get (x ∷ xs) index ≡ Some before) × (bare group ≡ bare before)
    stood head rest zero group there = (x, refl, ap bare (sym (same_some there)) ∙ head)
    stood head rest (suc index) group there = rest.stood index group there

    stands : bare y ≡ bare x → AreAlike xs ys → (index : ℕ) (group : GroupState) → slice_get (x ∷ xs) index ≡ Some group
        → (now : GroupState) × (slice_get (y ∷ ys) index ≡ Some now) × (bare now ≡ bare group)
    stands head rest zero group there = (y, refl, head ∙ ap bare (same_some there))
    stands head rest (suc index) group there = rest.stands index group there
alike old new e = absurd cc

-- a change of each group

pub map_bare-map : (change : GroupState → GroupState) → ((group : GroupState) → bare (change group) ≡ bare group) → (groups : List GroupState)
    → map_list bare (map_list change groups) ≡ map_list bare groups
map_bare-map change keeps [] = refl
map_bare-map change keeps (first ∷ groups) = (λ i. keeps first i ∷ map_bare-map change keeps groups i)

pub AreSoundGroups-map : (change : GroupState → GroupState) → ((group : GroupState) → IsSoundGroup group → IsSoundGroup (change group))
    → (groups : List GroupState) → AreSoundGroups groups → AreSoundGroups (map_list change groups)
AreSoundGroups-map change each groups sound index group there =
    let before = before-map change groups index group there in
    subst IsSoundGroup before.2 (each before.0 (sound index before.0 before.1))

module _ (old : ShardState) (groups : List GroupState) (same : map_list bare groups ≡ map_list bare old.groups) where
  is_alike : AreAlike old.groups groups
  is_alike = alike old.groups groups same

  pub IsSound-alike : AreSoundGroups groups → IsSound old → IsSound (record old { groups = groups })
  IsSound-alike after sound = record {
    ascending = λ low high a b less at_low at_high.
        let x = is_alike.stood low a at_low in
        let y = is_alike.stood high b at_high in
        let low_rank : rank a.head.id ≡ rank x.0.head.id = ap (λ (g : GroupState). rank g.head.id) x.2 in
        let high_rank : rank b.head.id ≡ rank y.0.head.id = ap (λ (g : GroupState). rank g.head.id) y.2 in
        rw (low_rank, high_rank) (sound.ascending low high x.0 y.0 less x.1 y.1);
    groups = after;
    once = λ id. rw is_alike.spans (sound.once id);
    limit = rw is_alike.many sound.limit;
    serials = λ index place group span there own.
        let before = is_alike.stood index group there.0 in
        sound.serials index place before.0 span (before.1, ap (λ (g : GroupState). slice_get (spans_of g) place) (sym before.2) ∙ there.1) own;
    opened = sound.opened;
    span_limit = sound.span_limit;
    gens = sound.gens;
    none_left = λ ended. nil_from_length groups (is_alike.many ∙ ap length (sound.none_left ended));
  }

  -- the map stays, since it is that of the logs
  pub shown-alike : AreSoundGroups groups → IsSound old → shown (record old { groups = groups }) ≡ shown old
  shown-alike after sound =
      shown_by-logged groups after (IsSound-alike after sound).once ∙ ap (λ spans. logged spans nothing_pending) is_alike.spans ∙ sym (shown_by-logged old.groups sound.groups sound.once)

  pub HasGuestRoom-alike : (onto : Option SpanId) (more room : ℕ) → HasGuestRoom old.groups onto more room → HasGuestRoom groups onto more room
  HasGuestRoom-alike onto more room has head named index group here =
      let before = is_alike.stood index group here.here in
      let enough : length before.0.guests + more ≤ room = has head named index before.0 (record { here = before.1; head_is = ap (λ (g : GroupState). g.head.id) (sym before.2) ∙ here.head_is }) in
      let long : length group.guests ≡ length before.0.guests = ap (λ (g : GroupState). length g.guests) before.2 in
      omega arith
