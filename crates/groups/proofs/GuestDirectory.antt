-- A directory of guests, as groups change, come and go.
use Rattle.std.proofs.Common.{zero, suc, ◌≡◌, ℕ, ◌+◌, ◌≤◌, ◌⊎◌, List, [], ◌∷◌, ◌++◌, length, insert, set, Some, slice_get, ◌∙◌, ap, sym, refl, inl, inr, arith, rules}
use Rattle.std.specs.FinMap as map
use Rattle.std.specs.Prelude.{remove}
use Rattle.std.proofs.lemmas.Bool.{cases_eq}
use Rattle.std.proofs.lemmas.Option.{none-some}
use Rattle.span.specs.Ids.{rank}
use Rattle.span.specs.State.{SpanState}
use Rattle.span.specs.declared.id.SpanId.{SpanId}
use Rattle.groups.specs.Directory.{Entries, IsDirectory, IsGuestAt, entered, struck}
use Rattle.groups.specs.declared.directory.Place.{Place}
use Rattle.groups.proofs.Entered.{HasNoRank, HaveOwnRanks, entered-was, get-entered_in, get-entered_out, get-struck_out, struck-was}
use Rattle.groups.proofs.Lists.{after-insert, after-set, before-set, cases-insert, cases-set, get-insert, get-set, get_left, same_some}
use Rattle.groups.proofs.Removed.{after-remove, before-remove}

-- at each place of the lists stand spans of one id
pub record HaveSameIds (before after : List SpanState) : Type 0 where
  pub forth : (place : ℕ) (span : SpanState) → slice_get before place ≡ Some span → (other : SpanState) × (slice_get after place ≡ Some other) × (other.id ≡ span.id)
  pub back : (place : ℕ) (span : SpanState) → slice_get after place ≡ Some span → (other : SpanState) × (slice_get before place ≡ Some other) × (other.id ≡ span.id)

pub HaveSameIds-same : (spans : List SpanState) → HaveSameIds spans spans
HaveSameIds-same spans = record { forth = λ place span here. (span, here, refl); back = λ place span here. (span, here, refl) }

pub HaveSameIds-set : (guests : List SpanState) (place : ℕ) (guest changed : SpanState) → slice_get guests place ≡ Some guest → changed.id ≡ guest.id → HaveSameIds guests (set guests place changed)
HaveSameIds-set guests place guest changed here same = record {
  forth = λ other span there. after-set (λ (old new : SpanState). new.id ≡ old.id) (λ s. refl) guests place guest changed here same other span there;
  back = λ other span there. let was = before-set (λ (old new : SpanState). new.id ≡ old.id) (λ s. refl) guests place guest changed here same other span there in (was.0, was.1, sym was.2);
}

-- a write leaves the other places
pub get-set_other : {X : Type 0} (xs : List X) (at other : ℕ) (x y : X) → (other ≡ at → ⊥) → slice_get xs other ≡ Some x → slice_get (set xs at y) other ≡ Some x
get-set_other (z ∷ zs) zero zero x y apart there = absurd (apart refl)
get-set_other (z ∷ zs) (suc at) (suc other) x y apart there = get-set_other zs at other x y (λ e. apart (ap suc e)) there
get-set_other xs at other x y apart there = there

-- what stands in two lists that are appended
get_behind : {X : Type 0} (xs ys : List X) (at : ℕ) (y : X) → slice_get ys at ≡ Some y → slice_get (xs ++ ys) (length xs + at) ≡ Some y
get_behind {X} [] ys at y there = let e : length {A = X} [] + at ≡ at = omega arith in ap (slice_get ys) e ∙ there
get_behind (x ∷ xs) ys at y there = let e : length (x ∷ xs) + at ≡ suc (length xs + at) = omega arith in ap (slice_get (x ∷ (xs ++ ys))) e ∙ get_behind xs ys at y there

cases-append : {X : Type 0} (xs ys : List X) (at : ℕ) (y : X) → slice_get (xs ++ ys) at ≡ Some y → (slice_get xs at ≡ Some y) ⊎ ((later : ℕ) × (at ≡ length xs + later) × (slice_get ys later ≡ Some y))
cases-append [] ys at y there = inr (at, omega arith, there)
cases-append (x ∷ xs) ys zero y there = inl there
cases-append (x ∷ xs) ys (suc at) y there = search (rules, (cases-append xs ys at y there))

-- `head_of` gives the id of a group's head, and `guests_of` its guests
module _ {G : Type 0} (head_of : G → SpanId) (guests_of : G → List SpanState) where
  -- heads are of one group each
  abbrev pub HaveOwnHeads : List G → Type 0
  HaveOwnHeads groups = (i j : ℕ) (a b : G) → slice_get groups i ≡ Some a → slice_get groups j ≡ Some b → head_of a ≡ head_of b → i ≡ j

  -- none of the groups has a guest of this rank
  abbrev pub HasNoGuest : List G → ℕ → Type 0
  HasNoGuest groups number = (index place : ℕ) (group : G) (guest : SpanState) → slice_get groups index ≡ Some group → slice_get (guests_of group) place ≡ Some guest → rank guest.id ≡ number → ⊥

  -- the guest, among other groups
  pub stands_too : (groups others : List G) (number : ℕ) (at : Place) (was : IsGuestAt head_of guests_of groups number at) (index : ℕ)
      → slice_get others index ≡ Some was.group → IsGuestAt head_of guests_of others number at
  stands_too groups others number at was index here = search rules

  -- the guest at this place of the group at the index
  pub stands_now : (groups : List G) (index : ℕ) (group : G) → slice_get groups index ≡ Some group → (place : ℕ) (guest : SpanState)
      → slice_get (guests_of group) place ≡ Some guest → (number : ℕ) (at : Place) → rank guest.id ≡ number → at.head ≡ head_of group → at.place ≡ suc place
      → IsGuestAt head_of guests_of groups number at
  stands_now groups index group here place guest there number at named head_is place_is = search rules

  -- groups of which those that have guests are the same, in whatever order
  pub IsDirectory-left : (groups left : List G) (entries : Entries) → IsDirectory head_of guests_of groups entries
      → ((index : ℕ) (group : G) → slice_get left index ≡ Some group → (was : ℕ) × (slice_get groups was ≡ Some group))
      → ((index place : ℕ) (group : G) (guest : SpanState) → slice_get groups index ≡ Some group → slice_get (guests_of group) place ≡ Some guest → (now : ℕ) × (slice_get left now ≡ Some group))
      → IsDirectory head_of guests_of left entries
  IsDirectory-left groups left entries is stood stay = record {
    known = λ index place group guest here there. let was = stood index group here in is.known was.0 place group guest was.1 there;
    only = λ number at found. left_at number at (is.only number at found);
  }
    where
      left_at : (number : ℕ) (at : Place) → IsGuestAt head_of guests_of groups number at → IsGuestAt head_of guests_of left number at
      left_at number at was = let now = stay was.index was.place was.group was.guest was.group_is was.guest_is in stands_too groups left number at was now.0 now.1

  pub IsDirectory-none : (groups : List G) (entries : Entries) → groups ≡ [] → entries ≡ map.empty → IsDirectory head_of guests_of groups entries
  IsDirectory-none groups entries none empty = search (rules, none-some, map.get-empty)

  module _ (groups : List G) (entries : Entries) (is : IsDirectory head_of guests_of groups entries) where
    -- a guest stays, in a group that is another now
    still_there : (index : ℕ) (before after : G) → slice_get groups index ≡ Some before → head_of after ≡ head_of before
        → ((place : ℕ) (guest : SpanState) → slice_get (guests_of before) place ≡ Some guest → (other : SpanState) × (slice_get (guests_of after) place ≡ Some other) × (other.id ≡ guest.id))
        → (number : ℕ) (at : Place) → IsGuestAt head_of guests_of groups number at → IsGuestAt head_of guests_of (set groups index after) number at
    still_there index before after here head forth number at was = elim (cases_eq was.index index) [
      | inl same ↦
          let one : was.group ≡ before = same_some (sym was.group_is ∙ ap (slice_get groups) same ∙ here) in
          let now = forth was.place was.guest (ap (λ g. slice_get (guests_of g) was.place) (sym one) ∙ was.guest_is) in
          stands_now (set groups index after) index after (get-set groups index before after here) was.place now.0 now.1 number at (ap rank now.2 ∙ was.rank_is) (was.head_is ∙ ap head_of one ∙ sym head) was.place_is
      | inr apart ↦ stands_too groups (set groups index after) number at was was.index (get-set_other groups index was.index was.group after apart was.group_is)
    ]

    -- a change of a group that leaves the ids of its spans
    pub IsDirectory-set : (index : ℕ) (before after : G) → slice_get groups index ≡ Some before → head_of after ≡ head_of before → HaveSameIds (guests_of before) (guests_of after)
        → IsDirectory head_of guests_of (set groups index after) entries
    IsDirectory-set index before after here head ids = search (rules, cases-set, still_there)

    -- a group comes, whose guests are elsewhere
    pub IsDirectory-insert : (index : ℕ) (group : G) → index ≤ length groups → HaveOwnRanks (guests_of group)
        → ((place : ℕ) (guest : SpanState) → slice_get (guests_of group) place ≡ Some guest → HasNoGuest groups (rank guest.id))
        → IsDirectory head_of guests_of (insert groups index group) (entered entries (guests_of group) (head_of group) 1)
    IsDirectory-insert index group within apart new = record {
      known = λ other place g guest at there. elim (cases-insert groups index group within other g at) [
        | inl low ↦ old other place g guest low.1 there
        | inr (inl here) ↦
            get-entered_in (guests_of group) entries (head_of group) 1 place guest apart (ap (λ x. slice_get (guests_of x) place) here.1 ∙ there)
            ∙ ap (λ n. Some (record { head = head_of group; place = n })) (let next : 1 + place ≡ suc place = omega arith in next)
            ∙ ap (λ x. Some (record { head = head_of x; place = suc place })) here.1
        | inr (inr high) ↦ old high.0 place g guest high.3 there
      ];
      only = λ number at found. elim (entered-was (guests_of group) entries (head_of group) 1 number at found) [
        | inl (place, guest, here, named, head, there) ↦
            stands_now (insert groups index group) index group (get-insert groups index group within) place guest here number at named head
            (there ∙ (let next : 1 + place ≡ suc place = omega arith in next))
        | inr before ↦ moved number at (is.only number at before)
      ];
    }
      where
        old : (other place : ℕ) (g : G) (guest : SpanState) → slice_get groups other ≡ Some g → slice_get (guests_of g) place ≡ Some guest
            → map.get (entered entries (guests_of group) (head_of group) 1) (rank guest.id) ≡ Some (record { head = head_of g; place = suc place })
        old other place g guest at there =
            get-entered_out (guests_of group) entries (head_of group) 1 (rank guest.id) (λ k span here same. new k span here other place g guest at there (sym same))
            ∙ is.known other place g guest at there

        moved : (number : ℕ) (at : Place) → IsGuestAt head_of guests_of groups number at → IsGuestAt head_of guests_of (insert groups index group) number at
        moved number at was = let now = after-insert groups index group was.index was.group was.group_is in stands_too groups (insert groups index group) number at was now.0 now.1

    module _ (heads : HaveOwnHeads groups) where
      -- a guest stands in one group
      pub one_group : (i j p q : ℕ) (a b : G) (x y : SpanState) → slice_get groups i ≡ Some a → slice_get groups j ≡ Some b → slice_get (guests_of a) p ≡ Some x
          → slice_get (guests_of b) q ≡ Some y → rank x.id ≡ rank y.id → i ≡ j
      one_group i j p q a b x y at_i at_j at_p at_q same =
          let one : ◌≡◌ {A = Place} (record { head = head_of a; place = suc p }) (record { head = head_of b; place = suc q }) =
          same_some (sym (is.known i p a x at_i at_p) ∙ ap (map.get entries) same ∙ is.known j q b y at_j at_q) in
          heads i j a b at_i at_j (ap (λ (place : Place). place.head) one)

      -- a group goes
      pub IsDirectory-remove : (index : ℕ) (group : G) → slice_get groups index ≡ Some group → IsDirectory head_of guests_of (remove groups index) (struck entries (guests_of group))
      IsDirectory-remove index group here = record {
        known = λ other place g guest at there.
            let before = before-remove groups index other g at in
            get-struck_out (guests_of group) entries (rank guest.id) (λ k span in_group same. before.1 (one_group before.0 index place k g group guest span before.2 here there in_group (sym same)))
            ∙ is.known before.0 place g guest before.2 there;
        only = λ number at found.
            let was = struck-was (guests_of group) entries number at found in
            moved number at was.0 (is.only number at was.1);
      }
        where
          moved : (number : ℕ) (at : Place) → HasNoRank (guests_of group) number → IsGuestAt head_of guests_of groups number at → IsGuestAt head_of guests_of (remove groups index) number at
          moved number at none was =
              let now = after-remove groups index was.index was.group was.group_is
              (λ same. none was.place was.guest (ap (λ x. slice_get (guests_of x) was.place) (same_some (sym here ∙ ap (slice_get groups) (sym same) ∙ was.group_is)) ∙ was.guest_is) was.rank_is) in
              stands_too groups (remove groups index) number at was now.0 now.1

    -- a group takes guests in, which are elsewhere
    pub IsDirectory-guests : (index : ℕ) (before after : G) (more : List SpanState) → slice_get groups index ≡ Some before → head_of after ≡ head_of before
        → guests_of after ≡ guests_of before ++ more → HaveOwnRanks more
        → ((place : ℕ) (guest : SpanState) → slice_get more place ≡ Some guest → HasNoGuest groups (rank guest.id))
        → IsDirectory head_of guests_of (set groups index after) (entered entries more (head_of before) (suc (length (guests_of before))))
    IsDirectory-guests index before after more here head guests apart new = record {
      known = λ other place g guest at there. elim (cases-set groups index after other g at) [
        | inl now ↦ here_now place guest g now.1 there
        | inr elsewhere ↦ old other place g guest elsewhere.1 there
      ];
      only = λ number at found. elim (entered-was more entries (head_of before) (suc (length (guests_of before))) number at found) [
        | inl (place, guest, there, named, head_is, place_is) ↦
            stands_now (set groups index after) index after (get-set groups index before after here) (length (guests_of before) + place) guest
            (ap (λ gs. slice_get gs (length (guests_of before) + place)) guests ∙ get_behind (guests_of before) more place guest there) number at named (head_is ∙ sym head)
            (place_is ∙ (let next : suc (length (guests_of before)) + place ≡ suc (length (guests_of before) + place) = omega arith in next))
        | inr was ↦ still_there index before after here head stays number at (is.only number at was)
      ];
    }
      where
        old : (other place : ℕ) (g : G) (guest : SpanState) → slice_get groups other ≡ Some g → slice_get (guests_of g) place ≡ Some guest
            → map.get (entered entries more (head_of before) (suc (length (guests_of before)))) (rank guest.id) ≡ Some (record { head = head_of g; place = suc place })
        old other place g guest at there =
            get-entered_out more entries (head_of before) (suc (length (guests_of before))) (rank guest.id) (λ k span in_more same. new k span in_more other place g guest at there (sym same))
            ∙ is.known other place g guest at there

        here_now : (place : ℕ) (guest : SpanState) (g : G) → after ≡ g → slice_get (guests_of g) place ≡ Some guest
            → map.get (entered entries more (head_of before) (suc (length (guests_of before)))) (rank guest.id) ≡ Some (record { head = head_of g; place = suc place })
        here_now place guest g now there = search (rules, cases-append, old, get-entered_in)

        stays : (place : ℕ) (guest : SpanState) → slice_get (guests_of before) place ≡ Some guest → (other : SpanState) × (slice_get (guests_of after) place ≡ Some other) × (other.id ≡ guest.id)
        stays place guest there = (guest, ap (λ gs. slice_get gs place) guests ∙ get_left (guests_of before) more place guest there, refl)
