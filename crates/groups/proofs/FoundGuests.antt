-- A directory of the guests of groups with ascending heads, and what a look-up makes of it, whatever else a group has.
use Rattle.std.proofs.Common.{zero, suc, ◌≡◌, ℕ, ◌≤◌, List, ◌∷◌, ◌++◌, length, insert, set, Option, None, Some, slice_get, ◌∙◌, ap, sym, refl, subst, arith, rules}
use Rattle.std.specs.FinMap as map
use Rattle.std.specs.Option.{unwrap_or}
use Rattle.std.specs.Prelude.{count_by, remove}
use Rattle.std.proofs.lemmas.Bool.{cases_eq, cases_lt}
use Rattle.span.specs.Ids.{rank, same_span}
use Rattle.span.specs.State.{SpanState}
use Rattle.span.specs.declared.id.SpanId.{SpanId}
use Rattle.groups.specs.Directory.{Entries, IsDirectory, entered, struck}
use Rattle.groups.specs.declared.directory.Place.{Place}
use Rattle.groups.proofs.Entered.{HaveOwnRanks-once}
use Rattle.groups.proofs.GroupSpans.{IsInNone}
use Rattle.groups.proofs.GuestDirectory.{HaveOwnHeads, IsDirectory-guests, IsDirectory-insert, IsDirectory-remove}
use Rattle.groups.proofs.Heads.{AreAscending, one_of_head}
use Rattle.groups.proofs.Lists.{same_some}
use Rattle.groups.proofs.Ranks.{id_from_rank}

-- where a guest has no entry, its id may be a head's
abbrev pub place_or_head : Option Place → SpanId → Place
place_or_head entry id = unwrap_or entry (record { head = id; place = 0 })

-- `head` gives the head of a group, and `guests` its guests
module _ {G : Type 0} (head : G → SpanState) (guests : G → List SpanState) where
  abbrev id_of : G → SpanId
  id_of group = (head group).id

  abbrev spans_of : G → List SpanState
  spans_of group = head group ∷ guests group

  pub own_heads : (groups : List G) → AreAscending id_of groups → HaveOwnHeads id_of guests groups
  own_heads groups ascend i j a b at_i at_j same = search (rules, cases_lt, cases_eq)

  -- the group of the head stands at the index
  abbrev pub StandsWithHead : List G → SpanId → ℕ → G → Type 0
  StandsWithHead groups id index group = (slice_get groups index ≡ Some group) × (id_of group ≡ id)

  -- the span of the id stands at this place of the group at the index
  abbrev pub FoundAt : List G → SpanId → ℕ → ℕ → Type 0
  FoundAt groups id index place = (group : G) × (span : SpanState) × (slice_get groups index ≡ Some group) × (slice_get (spans_of group) place ≡ Some span) × (span.id ≡ id)

  module _ (groups : List G) (entries : Entries) (knows : IsDirectory id_of guests groups entries) where
    pub IsDirectory-gone : AreAscending id_of groups → (index : ℕ) (group : G) → slice_get groups index ≡ Some group → IsDirectory id_of guests (remove groups index) (struck entries (guests group))
    IsDirectory-gone ascend index group here = IsDirectory-remove id_of guests groups entries knows (own_heads groups ascend) index group here

    -- a span that is elsewhere is no guest here
    no_guest : (id : SpanId) → IsInNone spans_of groups id → (index place : ℕ) (group : G) (guest : SpanState) → slice_get groups index ≡ Some group
        → slice_get (guests group) place ≡ Some guest → rank guest.id ≡ rank id → ⊥
    no_guest id elsewhere index place group guest here there same = elsewhere index group here (suc place) (guest, there, id_from_rank guest.id id same)

    pub IsDirectory-come : (index : ℕ) (group : G) → index ≤ length groups → ((id : SpanId) → count_by (λ (s : SpanState). same_span s.id id) (spans_of group) ≤ 1)
        → ((place : ℕ) (span : SpanState) → slice_get (spans_of group) place ≡ Some span → IsInNone spans_of groups span.id)
        → IsDirectory id_of guests (insert groups index group) (entered entries (guests group) (id_of group) 1)
    IsDirectory-come index group within once elsewhere =
        IsDirectory-insert id_of guests groups entries knows index group within
        (λ low high a b less at_low at_high same. HaveOwnRanks-once (spans_of group) once (suc low) (suc high) a b (omega arith) at_low at_high same)
        (λ place guest there. no_guest guest.id (elsewhere (suc place) guest there))

    pub IsDirectory-joined : (index : ℕ) (before after : G) (more : List SpanState) → slice_get groups index ≡ Some before → id_of after ≡ id_of before → guests after ≡ guests before ++ more
        → ((id : SpanId) → count_by (λ (s : SpanState). same_span s.id id) more ≤ 1) → ((place : ℕ) (span : SpanState) → slice_get more place ≡ Some span → IsInNone spans_of groups span.id)
        → IsDirectory id_of guests (set groups index after) (entered entries more (id_of before) (suc (length (guests before))))
    IsDirectory-joined index before after more here same all once elsewhere =
        IsDirectory-guests id_of guests groups entries knows index before after more here same all (HaveOwnRanks-once more once) (λ place guest there. no_guest guest.id (elsewhere place guest there))

    -- a look-up

    there : AreAscending id_of groups → (id : SpanId) (entry : Option Place) → entry ≡ map.get entries (rank id) → (index : ℕ) (group : G)
        → StandsWithHead groups (place_or_head entry id).head index group → FoundAt groups id index (place_or_head entry id).place
    there ascend id None is index group here = (group, head group, here.0, refl, here.1)
    there ascend id (Some at) is index group here =
        let was = knows.only (rank id) at (sym is) in
        let one : was.group ≡ group = one_of_head id_of groups ascend was.index index was.group group was.group_is here.0 (sym was.head_is ∙ sym here.1) in
        (group, was.guest, here.0, ap (slice_get (spans_of group)) was.place_is ∙ ap (λ g. slice_get (guests g) was.place) (sym one) ∙ was.guest_is, id_from_rank was.guest.id id was.rank_is)

    not_there : (id : SpanId) (entry : Option Place) → entry ≡ map.get entries (rank id)
        → ((index : ℕ) (group : G) → StandsWithHead groups (place_or_head entry id).head index group → ⊥) → IsInNone spans_of groups id
    not_there id (Some at) is none index group here place found =
        let was = knows.only (rank id) at (sym is) in
        none was.index was.group (was.group_is, sym was.head_is)
    not_there id None is none index group here zero found = none index group (here, ap (λ (s : SpanState). s.id) (same_some found.1) ∙ found.2)
    not_there id None is none index group here (suc place) found =
        let e = is ∙ ap (λ i. map.get entries (rank i)) (sym found.2) ∙ knows.known index place group found.0 here found.1 in
        absurd cc

    module _ (id : SpanId) (entry : Option Place) (is : entry ≡ map.get entries (rank id)) (at : Place) (at_is : at ≡ place_or_head entry id) where
      pub found_there : AreAscending id_of groups → (index : ℕ) (group : G) → StandsWithHead groups at.head index group → FoundAt groups id index at.place
      found_there ascend index group here = subst (λ (p : Place). StandsWithHead groups p.head index group → FoundAt groups id index p.place) (sym at_is) (there ascend id entry is index group) here

      pub found_nowhere : ((index : ℕ) (group : G) → StandsWithHead groups at.head index group → ⊥) → IsInNone spans_of groups id
      found_nowhere none = not_there id entry is (subst (λ (p : Place). (index : ℕ) (group : G) → StandsWithHead groups p.head index group → ⊥) at_is none)
