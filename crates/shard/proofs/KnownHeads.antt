-- Where the heads that a shard opened stand, before and after each change.
use Rattle.std.proofs.Common.{suc, ◌≡◌, ℕ, ◌+◌, ◌-◌, ◌<◌, ◌≤◌, List, [], length, length-set, insert, set, None, Some, slice_get, get_or-set_other, get_or-set_same, le-leb, le-ltb, lt-ltb, nat_lt, option_map, ◌∙◌, ap, sym, subst, refl, inl, inr, arith, rules}
use Rattle.std.specs.Prelude.{map as map_list, nat_le}
use Rattle.std.specs.Prelude.{remove}
use Rattle.std.specs.List.{filter}
use Rattle.std.proofs.Math.Bool.{and-false}
use Rattle.std.proofs.lemmas.Bool.{cases_eq, lt-leb}
use Rattle.std.proofs.lemmas.List.{length-map}
use Rattle.std.proofs.lemmas.Option.{get_or_from_slice_get, slice_get-get_or, slice_get-map, slice_get_within}
use Rattle.span.proofs.Ids.{same_id}
use Rattle.span.specs.Ids.{rank}
use Rattle.span.specs.declared.id.SpanId.{SpanId}
use Rattle.span.specs.declared.limits.TheConstants.{MOST_PAGES}
use Rattle.groups.specs.Group.{Ascend, HasNoHead}
use Rattle.groups.proofs.Lists.{cases-insert, cases-set, get-insert, same_some}
use Rattle.groups.proofs.Removed.{cases-remove}
use Rattle.shard.specs.Group.{GroupState}
use Rattle.shard.specs.Heads.{AreReady, FitHeads, IsNoted, KnowsBelow, KnowsHeads, KnowsOthers, lowered, raised}
use Rattle.shard.specs.declared.head_indexes.TheConstants.{AWAY}
use Rattle.shard.specs.HeadWindow.{HeadWindow, end_of, entry_of, note_in}
use Rattle.shard.specs.Leaving.{has_stayed}
use Rattle.shard.specs.Sound.{IsSound}
use Rattle.shard.specs.State.{ShardState}
use Rattle.shard.proofs.AlikeGroups.{alike, bare}
use Rattle.shard.proofs.Left.{length-stayed}
use Rattle.shard.proofs.NotedGuests.{entry-kept, note_in-changed}
use Rattle.shard.proofs.Sparse.{before-filter, pairs-filter}

pub KnowsHeads-none : (number : ℕ) (groups : List GroupState) (window : HeadWindow) → groups ≡ [] → KnowsHeads number groups window
KnowsHeads-none number groups window none index group there own = absurd (let e : None ≡ Some group = ap (λ gs. slice_get gs index) (sym none) ∙ there in cc)

module _ (number : ℕ) (groups : List GroupState) (window : HeadWindow) (knows : KnowsHeads number groups window) where
  -- the heads are where they were
  pub KnowsHeads-same : (after : List GroupState)
      → ((index : ℕ) (group : GroupState) → slice_get after index ≡ Some group → (before : GroupState) × (slice_get groups index ≡ Some before) × (group.head.id ≡ before.head.id))
      → KnowsHeads number after window
  KnowsHeads-same after stood index group there own =
      let was = stood index group there in
      ap (λ (id : SpanId). entry_of window id.serial) was.2 ∙ knows index was.0 was.1 (subst (IsNoted number window.base) was.2 own)

  pub KnowsHeads-set : (index : ℕ) (before after : GroupState) → slice_get groups index ≡ Some before → after.head.id ≡ before.head.id → KnowsHeads number (set groups index after) window
  KnowsHeads-set index before after here same = search (rules, KnowsHeads-same, cases-set)

  -- the base has risen, or there are more entries
  pub KnowsHeads-more : (now : HeadWindow) → window.base ≤ now.base → ((serial : ℕ) → now.base ≤ serial → note_in now serial ≡ note_in window serial) → end_of window ≤ end_of now
      → KnowsHeads number groups now
  KnowsHeads-more now base same end index group there own =
      let low = own.1 in
      entry-kept window now base same end group.head.id.serial index low (knows index group there (own.0, omega (arith, low, base)))

  FitHeads-known : (index : ℕ) (group : GroupState) → slice_get groups index ≡ Some group → IsNoted number window.base group.head.id → group.head.id.serial < end_of window
  FitHeads-known index group there own = search (rules, slice_get_within)

  pub FitHeads-some : (after : List GroupState) → ((index : ℕ) (group : GroupState) → slice_get after index ≡ Some group → (before : ℕ) × (slice_get groups before ≡ Some group))
      → FitHeads number after window
  FitHeads-some after stood q g there own = let was = stood q g there in FitHeads-known was.0 g was.1 own

-- the entry of a span that is no head is written
pub KnowsHeads-written : (number : ℕ) (groups : List GroupState) (window now : HeadWindow) → now.base ≡ window.base → (id : SpanId) → HasNoHead groups id
    → ((serial : ℕ) → window.base ≤ serial → (id.shard ≡ number → serial ≡ id.serial → ⊥) → entry_of now serial ≡ entry_of window serial)
    → KnowsHeads number groups window → KnowsHeads number groups now
KnowsHeads-written number groups window now base id none others knows index group there own =
    let low : window.base ≤ group.head.id.serial = let l = own.1 in omega (arith, l, base) in
    others group.head.id.serial low (λ shard serial. none index group (record { here = there; head_is = same_id group.head.id id (own.0 ∙ sym shard) serial }))
    ∙ knows index group there (own.0, low)

-- ---- indexes that move

-- an index below stays, one from there on is one higher, and what is no index stays
raised-below : (from entry : ℕ) → entry < from → raised from entry ≡ entry
raised-below from entry less = rw (lt-leb from entry less) refl

raised-from : (from entry : ℕ) → from ≤ entry → entry < AWAY → raised from entry ≡ entry + 1
raised-from from entry high near = rw (le-leb from entry high, lt-ltb entry AWAY near) refl

raised-far : (from entry : ℕ) → AWAY ≤ entry → raised from entry ≡ entry
raised-far from entry far = rw (le-ltb entry AWAY far, and-false (nat_le from entry)) refl

lowered-within : (at entry : ℕ) → entry ≤ at → lowered at entry ≡ entry
lowered-within at entry low = rw (le-ltb at entry low) refl

lowered-behind : (at entry : ℕ) → at < entry → entry < AWAY → lowered at entry ≡ entry - 1
lowered-behind at entry high near = rw (lt-ltb at entry high, lt-ltb entry AWAY near) refl

lowered-far : (at entry : ℕ) → AWAY ≤ entry → lowered at entry ≡ entry
lowered-far at entry far = rw (le-ltb entry AWAY far, and-false (nat_lt at entry)) refl

-- the entry of a serial where all are changed alike
module _ (window now : HeadWindow) (base : now.base ≡ window.base) (change : ℕ → ℕ) (all : now.entries ≡ map_list change window.entries) where
  pub end_of-changed : end_of now ≡ end_of window
  end_of-changed = omega (arith, base, ap (λ (xs : List ℕ). length xs) all, length-map window.entries change)

  pub entry_of-changed : (serial entry after : ℕ) → entry_of window serial ≡ Some entry → change entry ≡ after → entry_of now serial ≡ Some after
  entry_of-changed serial entry after was is =
      ap (λ (xs : List ℕ). slice_get xs (serial - now.base)) all ∙ ap (λ b. slice_get (map_list change window.entries) (serial - b)) base
      ∙ slice_get-map change window.entries (serial - window.base) ∙ ap (option_map change) was ∙ ap Some is

-- what guests have is no index, and so it stays
pub guests-raised : (window now : HeadWindow) → now.base ≡ window.base → (from : ℕ) → now.entries ≡ map_list (raised from) window.entries → (serial : ℕ) → AWAY ≤ note_in window serial
    → note_in now serial ≡ note_in window serial
guests-raised window now base from all serial far =
    note_in-changed window now base (raised from) all (raised-far from AWAY (omega arith)) serial ∙ raised-far from (note_in window serial) far

pub guests-lowered : (window now : HeadWindow) → now.base ≡ window.base → (at : ℕ) → now.entries ≡ map_list (lowered at) window.entries → (serial : ℕ) → AWAY ≤ note_in window serial
    → note_in now serial ≡ note_in window serial
guests-lowered window now base at all serial far =
    note_in-changed window now base (lowered at) all (lowered-far at AWAY (omega arith)) serial ∙ lowered-far at (note_in window serial) far

module _ (number : ℕ) (groups : List GroupState) (window : HeadWindow) (knows : KnowsHeads number groups window) where
  -- a group comes behind all others
  pub KnowsOthers-appended : (index : ℕ) (group : GroupState) → index ≡ length groups → KnowsOthers number (insert groups index group) window index
  KnowsOthers-appended index group last q g apart there own = elim (cases-insert groups index group (omega (arith, last)) q g there) [
    | inl low ↦ knows q g low.1 own
    | inr (inl here) ↦ absurd (apart here.0)
    | inr (inr high) ↦ absurd (let less = slice_get_within groups high.0 g high.3 in omega (arith, less, high.2, last))
  ]

  -- a group comes, and each index from there on is one higher
  pub KnowsOthers-raised : (index : ℕ) (group : GroupState) → index ≤ length groups → length groups < MOST_PAGES → (now : HeadWindow) → now.base ≡ window.base
      → now.entries ≡ map_list (raised index) window.entries → KnowsOthers number (insert groups index group) now index
  KnowsOthers-raised index group within few now base all q g apart there own =
      let mine : IsNoted number window.base g.head.id = subst (λ b. IsNoted number b g.head.id) base own in
      elim (cases-insert groups index group within q g there) [
        | inl low ↦ entry_of-changed window now base (raised index) all g.head.id.serial q q (knows q g low.1 mine) (raised-below index q low.0)
        | inr (inl here) ↦ absurd (apart here.0)
        | inr (inr high) ↦
            let less = slice_get_within groups high.0 g high.3 in
            entry_of-changed window now base (raised index) all g.head.id.serial high.0 q (knows high.0 g high.3 mine)
            (raised-from index high.0 high.2 (omega (arith, less, few)) ∙ sym high.1)
      ]

  -- the last group goes
  pub KnowsHeads-last : (index : ℕ) → length groups ≡ index + 1 → KnowsHeads number (remove groups index) window
  KnowsHeads-last index last q g there own = elim (cases-remove groups index q g there) [
    | inl low ↦ knows q g low.1 own
    | inr high ↦ absurd (let less = slice_get_within groups (suc q) g high.1 in omega (arith, less, high.0, last))
  ]

  -- a group goes, and each index behind it is one lower
  pub KnowsHeads-lowered : (index : ℕ) → length groups ≤ MOST_PAGES → (now : HeadWindow) → now.base ≡ window.base
      → now.entries ≡ map_list (lowered index) window.entries → KnowsHeads number (remove groups index) now
  KnowsHeads-lowered index few now base all q g there own =
      let mine : IsNoted number window.base g.head.id = subst (λ b. IsNoted number b g.head.id) base own in
      elim (cases-remove groups index q g there) [
        | inl low ↦ entry_of-changed window now base (lowered index) all g.head.id.serial q q (knows q g low.1 mine) (lowered-within index q (let less = low.0 in omega (arith, less)))
        | inr high ↦
            let less = slice_get_within groups (suc q) g high.1 in
            let from = high.0 in
            let back : suc q - 1 ≡ q = omega arith in
            entry_of-changed window now base (lowered index) all g.head.id.serial (suc q) q (knows (suc q) g high.1 mine)
            (lowered-behind index (suc q) (omega (arith, from)) (omega (arith, less, few)) ∙ back)
      ]

-- the others are noted, and then the head that came
pub KnowsHeads-own : (number : ℕ) (groups : List GroupState) (at : ℕ) (group : GroupState) → at ≤ length groups → (head : SpanId) → group.head.id ≡ head → HasNoHead groups head
    → (window now : HeadWindow) → now.base ≡ window.base → KnowsOthers number (insert groups at group) window at
    → (IsNoted number window.base head → entry_of now head.serial ≡ Some at)
    → ((serial : ℕ) → window.base ≤ serial → (head.shard ≡ number → serial ≡ head.serial → ⊥) → entry_of now serial ≡ entry_of window serial)
    → KnowsHeads number (insert groups at group) now
KnowsHeads-own number groups at group within head head_is none window now base others this same q g there own =
    let mine : IsNoted number window.base g.head.id = subst (λ b. IsNoted number b g.head.id) base own in
    elim (cases_eq q at) [
      | inl is ↦
          let one : group ≡ g = same_some (sym (get-insert groups at group within) ∙ ap (slice_get (insert groups at group)) (sym is) ∙ there) in
          let id : g.head.id ≡ head = ap (λ (x : GroupState). x.head.id) (sym one) ∙ head_is in
          ap (λ (i : SpanId). entry_of now i.serial) id ∙ this (subst (IsNoted number window.base) id mine) ∙ ap Some (sym is)
      | inr apart ↦
          same g.head.id.serial mine.1 (λ shard serial. elsewhere q g apart there (same_id g.head.id head (mine.0 ∙ sym shard) serial))
          ∙ others q g apart there mine
    ]
  where
    elsewhere : (q : ℕ) (g : GroupState) → (q ≡ at → ⊥) → slice_get (insert groups at group) q ≡ Some g → g.head.id ≡ head → ⊥
    elsewhere q g apart there is = elim (cases-insert groups at group within q g there) [
      | inl low ↦ none q g (record { here = low.1; head_is = is })
      | inr (inl here) ↦ apart here.0
      | inr (inr high) ↦ none high.0 g (record { here = high.3; head_is = is })
    ]

-- a change of pages and flags
pub KnowsHeads-alike : (number : ℕ) (groups after : List GroupState) (window : HeadWindow) → map_list bare after ≡ map_list bare groups → KnowsHeads number groups window
    → KnowsHeads number after window
KnowsHeads-alike number groups after window same knows = KnowsHeads-same number groups window knows after (λ index group there.
    let was = (alike groups after same).stood index group there in
    (was.0, was.1, ap (λ (g : GroupState). g.head.id) was.2))

-- all own heads were opened
pub FitHeads-sound : (shard : ShardState) → IsSound shard → (window : HeadWindow) → shard.opened ≤ end_of window → FitHeads shard.number shard.groups window
FitHeads-sound shard sound window few index group there own = let low = sound.serials index 0 group group.head (there, refl) own.0 in omega (arith, low, few)

-- what is noted where groups have left
module _ (shard : ShardState) (sound : IsSound shard) (window : HeadWindow) (knows : KnowsHeads shard.number shard.groups window) (pages : shard.page_limit ≤ MOST_PAGES) where
  pub AreReady-swept : (now : HeadWindow) → now.base ≡ window.base → end_of now ≡ end_of window → AreReady shard.number (filter has_stayed shard.groups) now 0
  AreReady-swept now base end = record {
    ascend = pairs-filter (λ (a b : GroupState). rank a.head.id < rank b.head.id) has_stayed shard.groups sound.ascending;
    few = let few = length-stayed shard.groups in let limit = sound.limit in omega (arith, few, limit, pages);
    fit = λ q g there own.
        let low = FitHeads-some shard.number shard.groups window knows (filter has_stayed shard.groups)
        (λ i x at. let was = before-filter has_stayed shard.groups i x at in (was.0, was.1)) q g there (subst (λ b. IsNoted shard.number b g.head.id) base own) in
        omega (arith, low, end);
    below = λ q g low. absurd (omega (arith, low));
  }

-- one more index is noted

module _ (number : ℕ) (groups : List GroupState) (ascend : Ascend groups) (window : HeadWindow) (at : ℕ) (knows : KnowsBelow number groups window at) (group : GroupState)
    (here : slice_get groups at ≡ Some group) where
  -- heads before it have other serials
  other_serial : IsNoted number window.base group.head.id → (q : ℕ) (g : GroupState) → q < at → slice_get groups q ≡ Some g → IsNoted number window.base g.head.id
      → g.head.id.serial - window.base ≡ group.head.id.serial - window.base → ⊥
  other_serial mine q g low there own same = search rules

  pub KnowsBelow-own : IsNoted number window.base group.head.id → group.head.id.serial < end_of window
      → KnowsBelow number groups (record window { entries = set window.entries (group.head.id.serial - window.base) at }) (at + 1)
  KnowsBelow-own mine within q g low there own = elim (cases_eq q at) [
    | inl same ↦
        let one : group ≡ g = same_some (sym here ∙ ap (slice_get groups) (sym same) ∙ there) in
        let from = mine.1 in
        ap (λ (x : GroupState). slice_get (set window.entries (group.head.id.serial - window.base) at) (x.head.id.serial - window.base)) (sym one)
        ∙ set_there window.entries (group.head.id.serial - window.base) at (omega (arith, within, from)) ∙ ap Some (sym same)
    | inr other ↦
        set_elsewhere window.entries (group.head.id.serial - window.base) at (g.head.id.serial - window.base) q
        (other_serial mine q g (omega (arith, low, other)) there own) (knows q g (omega (arith, low, other)) there own)
  ]
    where
      set_there : (xs : List ℕ) (i x : ℕ) → i < length xs → slice_get (set xs i x) i ≡ Some x
      set_there xs i x low =
          slice_get-get_or (set xs i x) i 0 (let long = length-set xs i x in omega (arith, long, low)) ∙ ap Some (get_or-set_same xs i x 0 low)

      set_elsewhere : (xs : List ℕ) (i x j y : ℕ) → (j ≡ i → ⊥) → slice_get xs j ≡ Some y → slice_get (set xs i x) j ≡ Some y
      set_elsewhere xs i x j y apart is =
          slice_get-get_or (set xs i x) j y (let long = length-set xs i x in let low = slice_get_within xs j y is in omega (arith, long, low))
          ∙ ap Some (get_or-set_other xs i j x y apart ∙ get_or_from_slice_get xs j y y is)
