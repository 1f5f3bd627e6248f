-- A directory of guests, where a group loses those in which no slot is live.
use Rattle.std.proofs.Common.{suc, ◌≡◌, ℕ, ◌+◌, ◌≤◌, Bool, true, false, not, List, set, Some, slice_get, is_some, ◌∙◌, ap, sym, refl, inl, inr, arith, rules}
use Rattle.std.specs.FinMap as map
use Rattle.std.specs.Prelude.{count_by}
use Rattle.std.proofs.lemmas.Bool.{cases_eq}
use Rattle.span.specs.Ids.{rank, same_span}
use Rattle.span.specs.State.{SpanState}
use Rattle.span.specs.declared.id.SpanId.{SpanId}
use Rattle.groups.specs.Dead.{AreEntered, dead_among, is_dead, is_live, live_among, without_dead}
use Rattle.groups.specs.Directory.{Entries, IsDirectory, IsGuestAt, KnowsGuests, entered, struck}
use Rattle.groups.specs.Group.{Ascend, Group}
use Rattle.groups.specs.declared.directory.Place.{Place}
use Rattle.groups.proofs.DeadGuests.{after-filter, before-filter, times-live}
use Rattle.groups.proofs.Entered.{HasNoRank, HaveOwnRanks, HaveOwnRanks-once, entered-was, get-entered_in, get-entered_out, get-struck_out, struck-was}
use Rattle.groups.proofs.FoundGuests.{own_heads}
use Rattle.groups.proofs.GuestDirectory.{HaveOwnHeads, get-set_other, one_group, stands_now, stands_too}
use Rattle.groups.proofs.Lists.{cases-set, get-set, same_some}

-- a span that is dead is not live
dead_not_live : (span : SpanState) → is_dead span ≡ true → is_live span ≡ true → ⊥
dead_not_live span dead live = absurd (let no : false ≡ true = ap not (sym live) ∙ dead in cc)

module _ {G : Type 0} (head_of : G → SpanId) (guests_of : G → List SpanState) (groups : List G) (entries : Entries) (is : IsDirectory head_of guests_of groups entries)
    (index : ℕ) (before : G) (here : slice_get groups index ≡ Some before) where
  abbrev live : List SpanState
  live = live_among (guests_of before)

  abbrev dead : List SpanState
  dead = dead_among (guests_of before)

  abbrev left : Entries
  left = struck entries dead

  -- of one rank are no live and no dead guest
  apart : (p q : ℕ) (a b : SpanState) → slice_get live p ≡ Some a → slice_get dead q ≡ Some b → rank a.id ≡ rank b.id → ⊥
  apart p q a b at_p at_q same =
      let x = before-filter is_live (guests_of before) p a at_p in
      let y = before-filter is_dead (guests_of before) q b at_q in
      let one : ◌≡◌ {A = Place} (record { head = head_of before; place = suc x.0 }) (record { head = head_of before; place = suc y.0 }) =
      same_some (sym (is.known index x.0 before a here x.1) ∙ ap (map.get entries) same ∙ is.known index y.0 before b here y.1) in
      let places : suc x.0 ≡ suc y.0 = ap (λ (place : Place). place.place) one in
      let place_is : x.0 ≡ y.0 = omega (arith, places) in
      let span_is : a ≡ b = same_some (sym x.1 ∙ ap (slice_get (guests_of before)) place_is ∙ y.1) in
      dead_not_live b y.2 (ap is_live (sym span_is) ∙ x.2)

  -- the entries of live guests are left
  pub AreEntered-live : AreEntered left live
  AreEntered-live place span there =
      let was = before-filter is_live (guests_of before) place span there in
      ap is_some (get-struck_out dead entries (rank span.id) (λ k other at same. apart place k span other there at (sym same)) ∙ is.known index was.0 before span here was.1)

  module _ (heads : HaveOwnHeads head_of guests_of groups) (after : G) (head : head_of after ≡ head_of before) (guests : guests_of after ≡ live) (own : HaveOwnRanks live) where
    abbrev now : Entries
    now = entered left live (head_of before) 1

    -- a guest of another group has its entry
    old : (other place : ℕ) (g : G) (guest : SpanState) → (other ≡ index → ⊥) → slice_get groups other ≡ Some g → slice_get (guests_of g) place ≡ Some guest
        → map.get now (rank guest.id) ≡ Some (record { head = head_of g; place = suc place })
    old other place g guest elsewhere at there = search (rules, get-entered_out, before-filter, one_group, get-struck_out)

    next : (place : ℕ) → 1 + place ≡ suc place
    next place = omega arith

    moved : (number : ℕ) (at : Place) → map.get now number ≡ Some at → HasNoRank dead number → IsGuestAt head_of guests_of groups number at
        → IsGuestAt head_of guests_of (set groups index after) number at
    moved number at found none was = elim (cases_eq was.index index) [
      | inl same ↦
          let one : was.group ≡ before = same_some (sym was.group_is ∙ ap (slice_get groups) same ∙ here) in
          let there : slice_get (guests_of before) was.place ≡ Some was.guest = ap (λ g. slice_get (guests_of g) was.place) (sym one) ∙ was.guest_is in
          by_live there (is_live was.guest) refl
      | inr elsewhere ↦ stands_too head_of guests_of groups (set groups index after) number at was was.index (get-set_other groups index was.index was.group after elsewhere was.group_is)
    ]
      where
        by_live : slice_get (guests_of before) was.place ≡ Some was.guest → (b : Bool) → is_live was.guest ≡ b → IsGuestAt head_of guests_of (set groups index after) number at
        by_live there true lives =
            let kept = after-filter is_live (guests_of before) was.place was.guest there lives in
            let entry : record { head = head_of before; place = 1 + kept.0 } ≡ at = same_some
            (sym (get-entered_in live left (head_of before) 1 kept.0 was.guest own kept.1) ∙ ap (map.get now) was.rank_is ∙ found) in
            stands_now head_of guests_of (set groups index after) index after (get-set groups index before after here) kept.0 was.guest
            (ap (λ gs. slice_get gs kept.0) guests ∙ kept.1) number at was.rank_is
            (ap (λ (p : Place). p.head) (sym entry) ∙ sym head) (ap (λ (p : Place). p.place) (sym entry) ∙ next kept.0)
        by_live there false dies =
            let gone = after-filter is_dead (guests_of before) was.place was.guest there (ap not dies) in
            absurd (none gone.0 was.guest gone.1 was.rank_is)

    pub IsDirectory-live : IsDirectory head_of guests_of (set groups index after) now
    IsDirectory-live = record {
      known = λ other place g guest at there. elim (cases-set groups index after other g at) [
        | inl this ↦
            get-entered_in live left (head_of before) 1 place guest own (ap (λ gs. slice_get gs place) (sym guests) ∙ ap (λ x. slice_get (guests_of x) place) this.1 ∙ there)
            ∙ ap (λ n. Some (record { head = head_of before; place = n })) (next place)
            ∙ ap (λ i. Some (record { head = i; place = suc place })) (sym head ∙ ap head_of this.1)
        | inr that ↦ old other place g guest that.0 that.1 there
      ];
      only = λ number at found. elim (entered-was live left (head_of before) 1 number at found) [
        | inl (place, guest, there, named, head_is, place_is) ↦
            stands_now head_of guests_of (set groups index after) index after (get-set groups index before after here) place guest
            (ap (λ gs. slice_get gs place) guests ∙ there) number at named (head_is ∙ sym head) (place_is ∙ next place)
        | inr stayed ↦ let was = struck-was dead entries number at stayed in moved number at found was.0 (is.only number at was.1)
      ];
    }

module _ {Closed : Type 0} (groups : List (Group Closed)) (entries : Entries) (knows : KnowsGuests groups entries) (index : ℕ) (group : Group Closed) (here : slice_get groups index ≡ Some group) where
  pub AreEntered-forgotten : AreEntered (struck entries (dead_among group.guests)) (live_among group.guests)
  AreEntered-forgotten = AreEntered-live (λ (g : Group Closed). g.head.id) (λ (g : Group Closed). g.guests) groups entries knows index group here

  pub KnowsGuests-forgotten_apart : HaveOwnHeads (λ (g : Group Closed). g.head.id) (λ (g : Group Closed). g.guests) groups
      → ((id : SpanId) → count_by (λ (s : SpanState). same_span s.id id) group.guests ≤ 1)
      → KnowsGuests (set groups index (without_dead group)) (entered (struck entries (dead_among group.guests)) (live_among group.guests) group.head.id 1)
  KnowsGuests-forgotten_apart heads once =
      IsDirectory-live (λ (g : Group Closed). g.head.id) (λ (g : Group Closed). g.guests) groups entries knows index group here
      heads (without_dead group) refl refl
      (HaveOwnRanks-once (live_among group.guests) (λ id. omega (arith, once id, times-live id group.guests)))

  pub KnowsGuests-forgotten : Ascend groups → ((id : SpanId) → count_by (λ (s : SpanState). same_span s.id id) group.guests ≤ 1)
      → KnowsGuests (set groups index (without_dead group)) (entered (struck entries (dead_among group.guests)) (live_among group.guests) group.head.id 1)
  KnowsGuests-forgotten ascend = KnowsGuests-forgotten_apart (own_heads (λ (g : Group Closed). g.head) (λ (g : Group Closed). g.guests) groups ascend)
