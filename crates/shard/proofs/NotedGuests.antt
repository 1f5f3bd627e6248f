-- What a shard notes of the spans that it opened and that are no heads, before and after each change.
use Rattle.std.proofs.Common.{zero, suc, ◌≡◌, ◌≢◌, ℕ, ◌+◌, ◌-◌, ◌*◌, ◌<◌, ◌≤◌, Bool, true, false, cond, eqb, eq-eqb, eqb-true, List, [], ◌∷◌, ◌++◌, length, drop, get_or, get_or-set_other, insert, nat_cmp, lt-ltb, nat_lt, set, Option, Some, None, slice_get, ◌∙◌, ap, sym, refl, subst, arith, inl, inr, rules}
use Rattle.std.specs.Prelude.{◌⊎◌, ◌&&◌, ◌%◌, ◌==◌, map as map_list, remove}
use Rattle.std.specs.FinMap as map
use Rattle.std.specs.List.{filter}
use Rattle.std.proofs.lemmas.Bool.{cases_eq, cases_lt}
use Rattle.std.proofs.lemmas.List.{drop_all, get_or-map, get_or_past, length-map}
use Rattle.std.proofs.lemmas.Option.{get_or_from_slice_get, slice_get-get_or, slice_get_within}
use Rattle.groups.proofs.Entries.{IsStrikingDead, IsStrikingDead-dead, IsStrikingDead-live}
use Rattle.groups.proofs.Lists.{after-insert, after-set, cases-set, get-insert, get-set, same_some}
use Rattle.groups.proofs.Maps.{drop_step, get-insert as found-insert, get-remove as found-remove}
use Rattle.groups.proofs.Ranks.{id_from_rank}
use Rattle.groups.proofs.Removed.{after-remove, before-remove}
use Rattle.span.proofs.Ids.{same_id}
use Rattle.span.specs.Ids.{rank}
use Rattle.span.specs.State.{SpanState}
use Rattle.span.specs.declared.id.SpanId.{SpanId}
use Rattle.span.specs.declared.limits.TheConstants.{MOST_PAGES}
use Rattle.groups.specs.Dead.{is_live}
use Rattle.groups.specs.Directory.{DirectoryState, Entries, KnowsGuests, entered, struck}
use Rattle.groups.specs.Group.{Ascend, HasNoHead, IsElsewhere}
use Rattle.groups.specs.Spans.{HasNoSpan}
use Rattle.groups.specs.Whole.{WholeState, spans_moved}
use Rattle.groups.specs.declared.directory.Place.{Place}
use Rattle.shard.specs.Group.{GroupState}
use Rattle.shard.specs.HeadWindow.{HeadWindow, end_of, entry_of, note_in}
use Rattle.shard.specs.Heads.{HasNotesFor, IsNoted, KnowsHeads, KnowsNoHeads, NotesFollow, note_at, note_for}
use Rattle.shard.specs.declared.head_indexes.TheConstants.{AWAY, FAR, HEADS, PLACES}
use Rattle.shard.specs.Moves.{MayGraft}
use Rattle.shard.specs.State.{ShardState}
use Rattle.shard.proofs.AlikeGroups.{alike, bare}

-- a directory of these entries
abbrev pub directory_of : Entries → DirectoryState
directory_of entries = record { entries = entries; room = 0 }

-- ---- what a note may be

-- what a guest has is no index, and not the word for away
past_notes : (c : Bool) (x : ℕ) → HEADS ≤ x → FAR ≤ cond c x FAR
past_notes true x most = omega (arith, most)
past_notes false x most = omega arith

far_tests : (b : Bool) (place rest : ℕ) → FAR ≤ cond (b && nat_lt 0 place && nat_lt place PLACES) (place * HEADS + rest) FAR
far_tests false place rest = omega arith
far_tests true zero rest = omega arith
far_tests true (suc place) rest = rw (lt-ltb 0 (suc place) (omega arith)) (past_notes (nat_lt (suc place) PLACES) (suc place * HEADS + rest) (omega arith))

pub note_at-far : (number : ℕ) (at : Place) → FAR ≤ note_at number at
note_at-far number at = far_tests (at.head.shard == number) at.place (at.head.serial % HEADS)

pub note_for-past : (number : ℕ) (o : Option Place) → AWAY ≤ note_for number o
note_for-past number None = omega arith
note_for-past number (Some at) = let far = note_at-far number at in omega (arith, far)

-- and so only a span with no entry is noted as away
pub note_for-away : (number : ℕ) (o : Option Place) → note_for number o ≡ AWAY → o ≡ None
note_for-away number None is = refl
note_for-away number (Some at) is = absurd (let far = note_at-far number at in omega (arith, far, is))

-- a serial past all entries is that of a span that is away
note_in-within : (window : HeadWindow) (serial : ℕ) → (note_in window serial ≡ AWAY → ⊥) → serial < end_of window
note_in-within window serial differs = elim (cases_lt serial (end_of window)) [
  | inl less ↦ less
  | inr past ↦ absurd (differs (get_or_past window.entries (serial - window.base) AWAY (omega (arith, past))))
]

-- ---- one entry is written or struck: the note of its span changes, and no other
module _ (number : ℕ) (groups : List GroupState) (entries : Entries) (window : HeadWindow) (knows : KnowsNoHeads number groups entries window) (now : HeadWindow) (base : now.base ≡ window.base)
    (span : SpanId) (others : (serial : ℕ) → window.base ≤ serial → (span.shard ≡ number → serial ≡ span.serial → ⊥) → note_in now serial ≡ note_in window serial) where
  others_same : (id : SpanId) → IsNoted number now.base id → HasNoHead groups id → (id ≡ span → ⊥) → note_in now id.serial ≡ note_for number (map.get entries (rank id))
  others_same id own none apart =
      let low : window.base ≤ id.serial = let l = own.1 in omega (arith, l, base) in
      others id.serial low (λ shard serial. apart (same_id id span (own.0 ∙ sym shard) serial)) ∙ knows id (own.0, low) none

  KnowsNoHeads-written : (after : Entries) (value : Option Place) → ((q : ℕ) → map.get after q ≡ cond (eqb q (rank span)) value (map.get entries q))
      → (IsNoted number window.base span → note_in now span.serial ≡ note_for number value) → KnowsNoHeads number groups after now
  KnowsNoHeads-written after value get this id own none = by_test (eqb (rank id) (rank span)) refl
    where
      by_test : (b : Bool) → eqb (rank id) (rank span) ≡ b → note_in now id.serial ≡ note_for number (map.get after (rank id))
      by_test true same =
          let one : id ≡ span = id_from_rank id span (eqb-true (rank id) (rank span) same) in
          let mine : IsNoted number window.base span = subst (IsNoted number window.base) one (own.0, let l = own.1 in omega (arith, l, base)) in
          ap (λ (i : SpanId). note_in now i.serial) one ∙ this mine
          ∙ sym (ap (note_for number) (get (rank id) ∙ ap (λ b. cond b value (map.get entries (rank id))) same))
      by_test false differs =
          others_same id own none (λ one. let same : eqb (rank id) (rank span) ≡ true = eq-eqb (rank id) (rank span) (ap rank one) in cc)
          ∙ sym (ap (note_for number) (get (rank id) ∙ ap (λ b. cond b value (map.get entries (rank id))) differs))

  pub KnowsNoHeads-insert : (at : Place) → (IsNoted number window.base span → note_in now span.serial ≡ note_at number at)
      → KnowsNoHeads number groups (map.insert entries (rank span) at) now
  KnowsNoHeads-insert at this = KnowsNoHeads-written (map.insert entries (rank span) at) (Some at) (found-insert entries (rank span) at) this

  pub KnowsNoHeads-remove : (IsNoted number window.base span → note_in now span.serial ≡ AWAY) → KnowsNoHeads number groups (map.remove entries (rank span)) now
  KnowsNoHeads-remove this = KnowsNoHeads-written (map.remove entries (rank span)) None (found-remove entries (rank span)) this

  -- a head goes
  pub KnowsNoHeads-gone : (after : List GroupState) → ((id : SpanId) → HasNoHead after id → (id ≡ span → ⊥) → HasNoHead groups id) → map.get entries (rank span) ≡ None
      → (IsNoted number window.base span → note_in now span.serial ≡ AWAY) → KnowsNoHeads number after entries now
  KnowsNoHeads-gone after left no_guest this id own none = by_test (eqb (rank id) (rank span)) refl
    where
      by_test : (b : Bool) → eqb (rank id) (rank span) ≡ b → note_in now id.serial ≡ note_for number (map.get entries (rank id))
      by_test true same =
          let one : id ≡ span = id_from_rank id span (eqb-true (rank id) (rank span) same) in
          let mine : IsNoted number window.base span = subst (IsNoted number window.base) one (own.0, let l = own.1 in omega (arith, l, base)) in
          ap (λ (i : SpanId). note_in now i.serial) one ∙ this mine
          ∙ sym (ap (note_for number) (ap (λ (i : SpanId). map.get entries (rank i)) one ∙ no_guest))
      by_test false differs =
          let apart : id ≡ span → ⊥ = λ one. let same : eqb (rank id) (rank span) ≡ true = eq-eqb (rank id) (rank span) (ap rank one) in cc in
          others_same id own (left id none apart) apart

-- one guest more is entered
pub entered-next : (entries : Entries) (guests : List SpanState) (head : SpanId) (place : ℕ) (guest : SpanState) → slice_get guests place ≡ Some guest
    → entered (map.insert entries (rank guest.id) (record { head = head; place = place + 1 })) (drop (place + 1) guests) head (place + 1 + 1)
    ≡ entered entries (drop place guests) head (place + 1)
entered-next entries guests head place guest here = search (rules, drop_step)

-- and none is left
pub entered-all : (entries : Entries) (guests : List SpanState) (head : SpanId) (place : ℕ) → length guests ≤ place → entered entries (drop place guests) head (place + 1) ≡ entries
entered-all entries guests head place past = ap (λ rest. entered entries rest head (place + 1)) (drop_all place guests past)

-- where nothing is noted all are away
pub KnowsNoHeads-none : (number : ℕ) (groups : List GroupState) (entries : Entries) (window : HeadWindow) → window.entries ≡ [] → entries ≡ map.empty → KnowsNoHeads number groups entries window
KnowsNoHeads-none number groups entries window none empty id own no_head =
    ap (λ (notes : List ℕ). get_or notes (id.serial - window.base) AWAY) none
    ∙ ap (note_for number) (sym (ap (λ (es : Entries). map.get es (rank id)) empty ∙ map.get-empty nat_cmp (rank id)))

module _ (number : ℕ) (groups : List GroupState) (entries : Entries) (window : HeadWindow) (knows : KnowsNoHeads number groups entries window) where
  -- the base has risen, or there is more room
  pub KnowsNoHeads-more : (now : HeadWindow) → window.base ≤ now.base
      → ((serial : ℕ) → now.base ≤ serial → note_in now serial ≡ note_in window serial) → KnowsNoHeads number groups entries now
  KnowsNoHeads-more now base same id own none = same id.serial own.1 ∙ knows id (own.0, let low = own.1 in omega (arith, low, base)) none

  -- no head has gone
  pub KnowsNoHeads-fewer : (after : List GroupState) → ((index : ℕ) (group : GroupState) → slice_get groups index ≡ Some group
      → (now : ℕ) × (other : GroupState) × (slice_get after now ≡ Some other) × (other.head.id ≡ group.head.id)) → KnowsNoHeads number after entries window
  KnowsNoHeads-fewer after stays id own none = knows id own (λ index group at.
      let there = stays index group at.here in none there.0 there.1 (record { here = there.2; head_is = there.3 ∙ at.head_is }))

  pub KnowsNoHeads-set : (index : ℕ) (before after : GroupState) → slice_get groups index ≡ Some before → after.head.id ≡ before.head.id → KnowsNoHeads number (set groups index after) entries window
  KnowsNoHeads-set index before after here same = KnowsNoHeads-fewer (set groups index after) (λ q g there.
      let now = after-set (λ (x y : GroupState). y.head.id ≡ x.head.id) (λ x. refl) groups index before after here same q g there in
      (q, now.0, now.1, now.2))

  pub KnowsNoHeads-alike : (after : List GroupState) → map_list bare after ≡ map_list bare groups → KnowsNoHeads number after entries window
  KnowsNoHeads-alike after same = KnowsNoHeads-fewer after (λ q g there.
      let now = (alike groups after same).stands q g there in
      (q, now.0, now.1, ap (λ (x : GroupState). x.head.id) now.2))

  -- a group comes
  pub KnowsNoHeads-arrived : (head : SpanId) (index : ℕ) (group : GroupState) → index ≤ length groups → group.head.id ≡ head → (now : HeadWindow) → now.base ≡ window.base
      → ((serial : ℕ) → window.base ≤ serial → AWAY ≤ note_in window serial → (head.shard ≡ number → serial ≡ head.serial → ⊥) → note_in now serial ≡ note_in window serial)
      → KnowsNoHeads number (insert groups index group) entries now
  KnowsNoHeads-arrived head index group within head_is now base same id own none =
      let low : window.base ≤ id.serial = let l = own.1 in omega (arith, l, base) in
      let was = knows id (own.0, low) (λ q g at. let there = after-insert groups index group q g at.here in none there.0 g (record { here = there.1; head_is = at.head_is })) in
      let past = note_for-past number (map.get entries (rank id)) in
      same id.serial low (omega (arith, past, was)) (λ shard serial.
      none index group (record { here = get-insert groups index group within; head_is = head_is ∙ sym (same_id id head (own.0 ∙ sym shard) serial) })) ∙ was

  -- groups behind a place move, and the notes of guests stay
  pub KnowsNoHeads-moved : (now : HeadWindow) → now.base ≡ window.base
      → ((serial : ℕ) → AWAY ≤ note_in window serial → note_in now serial ≡ note_in window serial) → KnowsNoHeads number groups entries now
  KnowsNoHeads-moved now base same id own none =
      let was = knows id (own.0, let l = own.1 in omega (arith, l, base)) none in
      let past = note_for-past number (map.get entries (rank id)) in
      same id.serial (omega (arith, past, was)) ∙ was

  -- where a head stands is noted
  pub KnowsNoHeads-noted : (at : ℕ) (group : GroupState) → slice_get groups at ≡ Some group → IsNoted number window.base group.head.id
      → KnowsNoHeads number groups entries (record window { entries = set window.entries (group.head.id.serial - window.base) at })
  KnowsNoHeads-noted at group here mine id own none =
      get_or-set_other window.entries (group.head.id.serial - window.base) (id.serial - window.base) at AWAY
      (λ same. none at group (record {
        here = here;
        head_is = same_id group.head.id id (mine.0 ∙ sym own.0) (let low = mine.1 in let other = own.1 in omega (arith, low, other, same));
      }))
      ∙ knows id own none

  -- a guest that has an entry in the directory has one among the notes
  pub within-noted : (id : SpanId) (at : Place) → map.get entries (rank id) ≡ Some at → IsNoted number window.base id → HasNoHead groups id → id.serial < end_of window
  within-noted id at found own none = note_in-within window id.serial (λ is.
      let gone = note_for-away number (map.get entries (rank id)) (sym (knows id own none) ∙ is) in
      absurd (let e : None ≡ Some at = sym gone ∙ found in cc))

-- a head that goes leaves all others
pub heads-remove : (groups : List GroupState) (index : ℕ) (group : GroupState) → slice_get groups index ≡ Some group → (head : SpanId) → group.head.id ≡ head
    → (id : SpanId) → HasNoHead (remove groups index) id → (id ≡ head → ⊥) → HasNoHead groups id
heads-remove groups index group here head head_is id none apart q g at = elim (cases_eq q index) [
  | inl same ↦
      let one : g ≡ group = same_some (sym at.here ∙ ap (slice_get groups) same ∙ here) in
      apart (sym at.head_is ∙ ap (λ (x : GroupState). x.head.id) one ∙ head_is)
  | inr other ↦ let left = after-remove groups index q g at.here other in none left.0 g (record { here = left.1; head_is = at.head_is })
]

-- and is no head any more, since heads ascend
pub no_head-removed : (groups : List GroupState) → Ascend groups → (index : ℕ) (group : GroupState) → slice_get groups index ≡ Some group → (head : SpanId) → group.head.id ≡ head
    → HasNoHead (remove groups index) head
no_head-removed groups ascend index group here head head_is q g at =
    let was = before-remove groups index q g at.here in
    let same = ap rank (at.head_is ∙ sym head_is) in
    elim (cases_lt was.0 index) [
      | inl below ↦ let less = ascend was.0 index g group below was.2 here in omega (arith, less, same)
      | inr from ↦ let apart = was.1 in let less = ascend index was.0 group g (omega (arith, from, apart)) here was.2 in omega (arith, less, same)
    ]

-- what has no entry has none once others are struck
pub get-struck_none : (entries : Entries) (guests : List SpanState) (q : ℕ) → map.get entries q ≡ None → map.get (struck entries guests) q ≡ None
get-struck_none entries [] q none = none
get-struck_none entries (guest ∷ guests) q none =
    get-struck_none (map.remove entries (rank guest.id)) guests q (found-remove entries (rank guest.id) q ∙ by_test (eqb q (rank guest.id)))
  where
    by_test : (b : Bool) → cond b None (map.get entries q) ≡ None
    by_test true = refl
    by_test false = none

-- and so does one more of them all
pub heads-drop : (groups : List GroupState) (index : ℕ) (group : GroupState) → slice_get groups index ≡ Some group → (head : SpanId) → group.head.id ≡ head
    → (id : SpanId) → HasNoHead (drop (index + 1) groups) id → (id ≡ head → ⊥) → HasNoHead (drop index groups) id
heads-drop groups index group here head head_is id none apart q g at = at_place q at.here
  where
    next : suc index ≡ index + 1
    next = omega arith

    at_place : (q : ℕ) → slice_get (drop index groups) q ≡ Some g → ⊥
    at_place q there = elim (split q (ap (λ (gs : List GroupState). slice_get gs q) (sym (drop_step groups index group here)) ∙ there)) [
      | inl one ↦ apart (sym at.head_is ∙ ap (λ (x : GroupState). x.head.id) (sym one) ∙ head_is)
      | inr later ↦ none later.0 g (record { here = subst (λ (n : ℕ). slice_get (drop n groups) later.0 ≡ Some g) next later.1; head_is = at.head_is })
    ]
      where
        split : (q : ℕ) → slice_get (group ∷ drop (suc index) groups) q ≡ Some g → (group ≡ g) ⊎ ((later : ℕ) × (slice_get (drop (suc index) groups) later ≡ Some g))
        split zero e = inl (same_some e)
        split (suc q) e = inr (q, e)

-- ---- notes of which each is of a serial

-- a note that was an entry is one where there are no fewer
pub entry-kept : (window now : HeadWindow) → window.base ≤ now.base → ((serial : ℕ) → now.base ≤ serial → note_in now serial ≡ note_in window serial) → end_of window ≤ end_of now
    → (serial entry : ℕ) → now.base ≤ serial → entry_of window serial ≡ Some entry → entry_of now serial ≡ Some entry
entry-kept window now base same end serial entry low was =
    let less = slice_get_within window.entries (serial - window.base) entry was in
    slice_get-get_or now.entries (serial - now.base) AWAY (omega (arith, less, end, low, base))
    ∙ ap Some (same serial low ∙ get_or_from_slice_get window.entries (serial - window.base) entry AWAY was)

-- all entries are changed alike, and that a span is away is not
pub note_in-changed : (window now : HeadWindow) → now.base ≡ window.base → (change : ℕ → ℕ) → now.entries ≡ map_list change window.entries → change AWAY ≡ AWAY
    → (serial : ℕ) → note_in now serial ≡ change (note_in window serial)
note_in-changed window now base change all fixed serial =
    ap (λ (xs : List ℕ). get_or xs (serial - now.base) AWAY) all ∙ ap (λ b. get_or (map_list change window.entries) (serial - b) AWAY) base ∙ mapped
  where
    at : ℕ
    at = serial - window.base

    mapped : get_or (map_list change window.entries) at AWAY ≡ change (get_or window.entries at AWAY)
    mapped = elim (cases_lt at (length window.entries)) [
      | inl less ↦ get_or-map change window.entries at AWAY AWAY less
      | inr past ↦
          get_or_past (map_list change window.entries) at AWAY (let many = length-map window.entries change in omega (arith, many, past))
          ∙ sym fixed ∙ ap change (sym (get_or_past window.entries at AWAY past))
    ]

-- a note that is struck says that a span is away, also where there was none
pub note_in-struck : (window now : HeadWindow) (serial : ℕ) → window.base ≤ serial → (serial < end_of window → note_in now serial ≡ AWAY) → (end_of window ≤ serial → now ≡ window)
    → note_in now serial ≡ AWAY
note_in-struck window now serial low this past = search (rules, cases_lt, get_or_past)

-- ---- spans that are away

module _ (number : ℕ) (groups : List GroupState) (entries : Entries) (window : HeadWindow) (few : length groups ≤ MOST_PAGES) (heads : KnowsHeads number groups window)
    (known : KnowsGuests groups entries) (knows : KnowsNoHeads number groups entries window) (id : SpanId) (own : IsNoted number window.base id) (away : note_in window id.serial ≡ AWAY) where
  no_head-away : HasNoHead groups id
  no_head-away index group at =
      let entry = heads index group at.here (subst (IsNoted number window.base) (sym at.head_is) own) in
      let mine : entry_of window id.serial ≡ Some index = ap (λ (i : SpanId). entry_of window i.serial) (sym at.head_is) ∙ entry in
      let note = get_or_from_slice_get window.entries (id.serial - window.base) index AWAY mine in
      let less = slice_get_within groups index group at.here in
      omega (arith, away, note, less, few)

  no_guest-away : (index : ℕ) (group : GroupState) → slice_get groups index ≡ Some group → HasNoSpan group.guests id
  no_guest-away index group here place (guest, there, same) =
      let entry = ap (λ (i : SpanId). map.get entries (rank i)) (sym same) ∙ known.known index place group guest here there in
      let gone = note_for-away number (map.get entries (rank id)) (sym (knows id own no_head-away) ∙ away) in
      absurd (let e = sym gone ∙ entry in cc)

  pub IsElsewhere-away : IsElsewhere groups id
  IsElsewhere-away index group here zero (span, there, same) =
      no_head-away index group (record { here = here; head_is = ap (λ (s : SpanState). s.id) (same_some there) ∙ same })
  IsElsewhere-away index group here (suc place) (span, there, same) = no_guest-away index group here place (span, there, same)

-- a span that is elsewhere is no head
pub no_head-elsewhere : (groups : List GroupState) (id : SpanId) → IsElsewhere groups id → HasNoHead groups id
no_head-elsewhere groups id elsewhere index group at = elsewhere index group at.here 0 (group.head, refl, at.head_is)

-- a head is no guest, so the directory has no entry of it
pub no_entry-head : (groups : List GroupState) (entries : Entries) → KnowsGuests groups entries
    → ((index place : ℕ) (group : GroupState) (guest : SpanState) → slice_get groups index ≡ Some group → slice_get group.guests place ≡ Some guest → HasNoHead groups guest.id)
    → (index : ℕ) (group : GroupState) → slice_get groups index ≡ Some group → map.get entries (rank group.head.id) ≡ None
no_entry-head groups entries known apart index group here = by_entry (map.get entries (rank group.head.id)) refl
  where
    by_entry : (o : Option Place) → map.get entries (rank group.head.id) ≡ o → map.get entries (rank group.head.id) ≡ None
    by_entry None is = is
    by_entry (Some at) is = absurd (
        let was = known.only (rank group.head.id) at is in
        apart was.index was.place was.group was.guest was.group_is was.guest_is index group
        (record { here = here; head_is = sym (id_from_rank was.guest.id group.head.id was.rank_is) }))

-- guests were struck from both, or entered in both
pub KnowsNoHeads-struck : (number : ℕ) (groups : List GroupState) (entries after : Entries) (now : HeadWindow) (guests others : List SpanState)
    → KnowsNoHeads number groups (struck entries guests) now → guests ≡ others → after ≡ struck entries others → KnowsNoHeads number groups after now
KnowsNoHeads-struck number groups entries after now guests others knows same is = subst (λ (es : Entries). KnowsNoHeads number groups es now) (ap (struck entries) same ∙ sym is) knows

pub KnowsNoHeads-entered : (number : ℕ) (groups : List GroupState) (entries after : Entries) (now : HeadWindow) (guests others : List SpanState) (head : SpanId) (first : ℕ)
    → KnowsNoHeads number groups (entered entries (drop first guests) head (first + 1)) now → guests ≡ others → after ≡ entered entries (drop first others) head (first + 1)
    → KnowsNoHeads number groups after now
KnowsNoHeads-entered number groups entries after now guests others head first knows same is =
    subst (λ (es : Entries). KnowsNoHeads number groups es now) (ap (λ (spans : List SpanState). entered entries (drop first spans) head (first + 1)) same ∙ sym is) knows

-- what stands behind the first of two lists
pub get_behind : {X : Type 0} (xs ys : List X) (at : ℕ) (y : X) → slice_get (xs ++ ys) at ≡ Some y → length xs ≤ at → (later : ℕ) × (slice_get ys later ≡ Some y)
get_behind [] ys at y there past = (at, there)
get_behind (x ∷ xs) ys zero y there past = absurd (omega (arith, past))
get_behind (x ∷ xs) ys (suc at) y there past = get_behind xs ys at y there (omega (arith, past))

-- one span more is struck if it is dead
pub struck_if_dead : (number : ℕ) (groups : List GroupState) (entries was : Entries) (before now : HeadWindow) (guests : List SpanState) (place : ℕ) (guest : SpanState)
    → slice_get guests place ≡ Some guest → KnowsNoHeads number groups was before → IsStrikingDead (directory_of entries) (directory_of was) guests place
    → (is_live guest ≡ false → NotesFollow number before now (λ es. map.remove es (rank guest.id))) → (is_live guest ≡ true → now ≡ before)
    → (after : Entries) × KnowsNoHeads number groups after now × IsStrikingDead (directory_of entries) (directory_of after) guests (place + 1)
struck_if_dead number groups entries was before now guests place guest here knows striking goes stays = by_test (is_live guest) refl
  where
    by_test : (b : Bool) → is_live guest ≡ b → (after : Entries) × KnowsNoHeads number groups after now × IsStrikingDead (directory_of entries) (directory_of after) guests (place + 1)
    by_test true live = (
      was,
      subst (λ (w : HeadWindow). KnowsNoHeads number groups was w) (sym (stays live)) knows,
      IsStrikingDead-live (directory_of entries) (directory_of was) guests place striking guest here live,
    )
    by_test false dead = (
      map.remove was (rank guest.id),
      goes dead groups was knows,
      IsStrikingDead-dead (directory_of entries) (directory_of was) guests place striking guest here dead,
    )

-- the guests that come to a group may be noted
module _ (shard : ShardState) (head : SpanId) (whole : WholeState) (may : MayGraft shard head whole) (window : HeadWindow)
    (enough : (onto : SpanId) → shard.onto ≡ Some onto → shard.opened ≤ end_of window) where
  pub within_notes-grafted : (group : GroupState) (guests : List SpanState) → guests ≡ group.guests ++ spans_moved whole → (first : ℕ) → first ≡ length group.guests
      → (place : ℕ) (guest : SpanState) → slice_get guests place ≡ Some guest → first ≤ place → IsNoted shard.number window.base guest.id → guest.id.serial < end_of window
  within_notes-grafted group guests all first first_is place guest there behind own = search (rules, get_behind)

module _ (shard : ShardState) (head : SpanId) (whole : WholeState) (may : MayGraft shard head whole) where
  -- and none of them is a head
  pub no_head-grafted : (group : GroupState) (guests : List SpanState) → guests ≡ group.guests ++ spans_moved whole → (first : ℕ) → first ≡ length group.guests
      → (place : ℕ) (guest : SpanState) → slice_get guests place ≡ Some guest → first ≤ place → HasNoHead shard.groups guest.id
  no_head-grafted group guests all first first_is place guest there behind =
      let came = get_behind group.guests (spans_moved whole) place guest (ap (λ (spans : List SpanState). slice_get spans place) (sym all) ∙ there) (omega (arith, behind, first_is)) in
      no_head-elsewhere shard.groups guest.id (may.elsewhere came.0 guest came.1)
