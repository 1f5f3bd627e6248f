-- The first groups in order, which are told of without most of the others.
use Rattle.std.proofs.Common.{zero, suc, ◌≡◌, ℕ, ◌+◌, ◌-◌, ◌<◌, ◌≤◌, ◌⊎◌, ◌&&◌, Bool, false, refl, nat_lt, cond, List, [], ◌∷◌, ◌++◌, length, length-append, map, take, Some, slice_get, append_assoc, ◌∙◌, ap, sym, subst, inl, inr, arith, option_map, le-ltb, lt-ltb}
use Rattle.std.specs.List.{filter}
use Rattle.std.specs.List.Sorted.{IsPermutation}
use Rattle.std.proofs.lemmas.Bool.{cases_lt}
use Rattle.std.proofs.lemmas.List.{append-nil, length-map, take_all}
use Rattle.std.proofs.lemmas.List.Elements.{filter_more}
use Rattle.std.proofs.lemmas.List.Sorted.{IsPermutation-append_comm, IsPermutation-append_left, IsPermutation-append_right, IsPermutation-refl, IsPermutation-sym, IsPermutation-trans, length_permutation}
use Rattle.std.proofs.lemmas.Option.{get_or_from_slice_get, slice_get-map, slice_get_within}
use Rattle.span.specs.Ids.{rank}
use Rattle.groups.specs.Group.{Ascend, spans_of}
use Rattle.groups.specs.Sound.{AreSoundGroups}
use Rattle.groups.proofs.LiveCounts.{len-union_of}
use Rattle.groups.proofs.Lists.{get_left, in_either, same_some, there_at}
use Rattle.shard.specs.Group.{GroupState}
use Rattle.groups.specs.Least.{HaveLeast, least_of}
use Rattle.shard.specs.Least.{KnowsLeast}
use Rattle.shard.specs.Sparse.{live_of, told_of}
use Rattle.shard.specs.Telling.{AreBefore, AreFirst, AreSelected, IsCut, IsNotAfter, is_live, with_told}
use Rattle.shard.specs.declared.shard.retiring.LiveGroup.{LiveGroup}
use Rattle.shard.proofs.Sparse.{before-filter, moved, rises-told}

-- ---- one more is told of, or left out

-- of those seen these are told of, each with fewer live keys than the bound; each that is left out
-- lacks at most one to have as many, and has as many unless enough are told of
pub record IsTelling (bound most : ℕ) (seen told : List LiveGroup) : Type 0 where
  pub rest : List LiveGroup
  pub permutation : IsPermutation seen (told ++ rest)
  pub below : (at : ℕ) (a : LiveGroup) → slice_get told at ≡ Some a → a.live < bound
  pub far : (at : ℕ) (b : LiveGroup) → slice_get rest at ≡ Some b → bound ≤ b.live + 1
  pub enough : length told < most → (at : ℕ) (b : LiveGroup) → slice_get rest at ≡ Some b → bound ≤ b.live
  pub before : AreBefore told rest

pub IsTelling-none : (bound most : ℕ) → IsTelling bound most [] []
IsTelling-none bound most = record {
  rest = [];
  permutation = IsPermutation-refl [];
  below = λ at a there. absurd cc;
  far = λ at b there. absurd cc;
  enough = λ few at b there. absurd cc;
  before = λ low high a b at_low at_high. absurd cc;
}

-- how many live keys are too many for one that is told of, after so many
pub record IsLimit (bound most told limit : ℕ) : Type 0 where
  pub few : told < most → limit ≡ bound
  pub many : most ≤ told → limit ≡ bound - 1

only : (one x : LiveGroup) (at : ℕ) → slice_get (one ∷ []) at ≡ Some x → one ≡ x
only one x zero there = same_some there
only one x (suc at) there = absurd cc

module _ (bound most : ℕ) (seen told : List LiveGroup) (one : LiveGroup) (limit : ℕ) (telling : IsTelling bound most seen told) (is : IsLimit bound most (length told) limit) where
  abbrev rest : List LiveGroup
  rest = telling.rest

  appended : IsPermutation (seen ++ one ∷ []) (told ++ (rest ++ one ∷ []))
  appended = subst (IsPermutation (seen ++ one ∷ [])) (append_assoc told rest (one ∷ [])) (IsPermutation-append_left (one ∷ []) seen (told ++ rest) telling.permutation)

  fewer_than : one.live < limit → (at : ℕ) (b : LiveGroup) → slice_get rest at ≡ Some b → one.live < b.live
  fewer_than low at b there = elim (cases_lt (length told) most) [
    | inl few ↦ omega (arith, low, is.few few, telling.enough few at b there)
    | inr many ↦ omega (arith, low, is.many (omega (arith, many)), telling.far at b there)
  ]

  below_bound : one.live < limit → one.live < bound
  below_bound low = elim (cases_lt (length told) most) [
    | inl few ↦ omega (arith, low, is.few few)
    | inr many ↦ omega (arith, low, is.many (omega (arith, many)))
  ]

  pub IsTelling-told : one.live < limit → IsTelling bound most (seen ++ one ∷ []) (told ++ one ∷ [])
  IsTelling-told low = record {
    rest = rest;
    permutation = subst (IsPermutation (seen ++ one ∷ [])) (sym (append_assoc told (one ∷ []) rest))
        (IsPermutation-trans (seen ++ one ∷ []) (told ++ (rest ++ one ∷ [])) (told ++ ((one ∷ []) ++ rest)) appended
        (IsPermutation-append_right told (rest ++ one ∷ []) ((one ∷ []) ++ rest) (IsPermutation-append_comm rest (one ∷ []))));
    below = λ at a there. elim (in_either told (one ∷ []) at a there) [
      | inl old ↦ telling.below at a old
      | inr new ↦ subst (λ (x : LiveGroup). x.live < bound) (only one a new.0 new.1) (below_bound low)
    ];
    far = telling.far;
    enough = λ few. telling.enough (omega (arith, few, length-append told (one ∷ [])));
    before = λ low_at high a b at_low at_high. elim (in_either told (one ∷ []) low_at a at_low) [
      | inl old ↦ telling.before low_at high a b old at_high
      | inr new ↦ inl (subst (λ (x : LiveGroup). x.live < b.live) (only one a new.0 new.1) (fewer_than low high b at_high))
    ];
  }

  beyond_bound : limit ≤ one.live → bound ≤ one.live + 1
  beyond_bound high = elim (cases_lt (length told) most) [
    | inl few ↦ omega (arith, high, is.few few)
    | inr many ↦ omega (arith, high, is.many (omega (arith, many)))
  ]

  not_after : limit ≤ one.live → (a : LiveGroup) → a.live < bound → rank a.head < rank one.head → IsNotAfter a one
  not_after high a low lower = elim (cases_lt a.live one.live) [
    | inl fewer ↦ inl fewer
    | inr no_fewer ↦ inr (omega (arith, low, no_fewer, beyond_bound high), omega (arith, lower))
  ]

  pub IsTelling-left : limit ≤ one.live → ((at : ℕ) (a : LiveGroup) → slice_get seen at ≡ Some a → rank a.head < rank one.head) → IsTelling bound most (seen ++ one ∷ []) told
  IsTelling-left high lower = record {
    rest = rest ++ one ∷ [];
    permutation = appended;
    below = telling.below;
    far = λ at b there. elim (in_either rest (one ∷ []) at b there) [
      | inl old ↦ telling.far at b old
      | inr new ↦ subst (λ (x : LiveGroup). bound ≤ x.live + 1) (only one b new.0 new.1) (beyond_bound high)
    ];
    enough = λ few at b there. elim (in_either rest (one ∷ []) at b there) [
      | inl old ↦ telling.enough few at b old
      | inr new ↦ subst (λ (x : LiveGroup). bound ≤ x.live) (only one b new.0 new.1) (omega (arith, high, is.few few))
    ];
    before = λ low_at high_at a b at_low at_high. elim (in_either rest (one ∷ []) high_at b at_high) [
      | inl old ↦ telling.before low_at high_at a b at_low old
      | inr new ↦
          let was = moved (told ++ rest) seen low_at a (IsPermutation-sym seen (told ++ rest) telling.permutation) (get_left told rest low_at a at_low) in
          subst (IsNotAfter a) (only one b new.0 new.1) (not_after high a (telling.below low_at a at_low) (lower was.0 a was.1))
    ];
  }

-- ---- one group more

abbrev pub seen_at : List GroupState → ℕ → List LiveGroup
seen_at groups at = filter is_live (take at (map told_of groups))

before-take : {X : Type 0} (xs : List X) (count at : ℕ) (x : X) → slice_get (take count xs) at ≡ Some x → (slice_get xs at ≡ Some x) × (at < count)
before-take [] zero at x there = absurd cc
before-take [] (suc count) at x there = absurd cc
before-take (y ∷ ys) zero at x there = absurd cc
before-take (y ∷ ys) (suc count) zero x there = (there, omega arith)
before-take (y ∷ ys) (suc count) (suc at) x there = let rest = before-take ys count at x there in (rest.0, omega (arith, rest.1))

module _ (groups : List GroupState) (at : ℕ) (group : GroupState) (here : slice_get groups at ≡ Some group) where
  abbrev all : List LiveGroup
  all = map told_of groups

  there : slice_get all at ≡ Some (told_of group)
  there = slice_get-map told_of groups at ∙ ap (option_map told_of) here

  more : seen_at groups (at + 1) ≡ seen_at groups at ++ cond (is_live (told_of group)) (told_of group ∷ []) []
  more = filter_more is_live all at (told_of group) (slice_get_within all at (told_of group) there)
      ∙ ap (λ (x : LiveGroup). seen_at groups at ++ cond (is_live x) (x ∷ []) []) (get_or_from_slice_get all at (told_of group) (told_of group) there)

  pub seen-live : 1 ≤ live_of group → seen_at groups at ++ told_of group ∷ [] ≡ seen_at groups (at + 1)
  seen-live some = sym (more ∙ ap (λ b. seen_at groups at ++ cond b (told_of group ∷ []) []) (lt-ltb 0 (live_of group) some))

  pub seen-none : live_of group ≤ 0 → seen_at groups at ≡ seen_at groups (at + 1)
  seen-none none = sym (more ∙ ap (λ b. seen_at groups at ++ cond b (told_of group ∷ []) []) (le-ltb 0 (live_of group) none) ∙ append-nil (seen_at groups at))

  -- those that were seen have lower heads
  pub lower-seen : Ascend groups → (place : ℕ) (a : LiveGroup) → slice_get (seen_at groups at) place ≡ Some a → rank a.head < rank group.head.id
  lower-seen ascend place a found =
      let kept = before-filter is_live (take at all) place a found in
      let was = before-take all at kept.0 a kept.1 in
      rises-told groups ascend kept.0 at a (told_of group) was.1 was.0 there

pub AreFirst-telling : (bound most : ℕ) (groups : List GroupState) (at : ℕ) (told : List LiveGroup) → length groups ≤ at → IsTelling bound most (seen_at groups at) told
    → AreFirst (filter is_live (map told_of groups)) told
AreFirst-telling bound most groups at told past telling = record {
  rest = telling.rest;
  permutation = subst (λ (xs : List LiveGroup). IsPermutation (filter is_live xs) (told ++ telling.rest))
      (take_all at (map told_of groups) (omega (arith, past, length-map groups told_of))) telling.permutation;
  before = telling.before;
}

-- ---- a selection from the first ones, if they are enough

module _ (most : ℕ) (live told first : List LiveGroup) (are : AreFirst live told) (enough : most ≤ length told) (selected : AreSelected most told first) where
  abbrev others : List LiveGroup
  others = selected.rest ++ are.rest

  chosen : IsPermutation live (first ++ others)
  chosen = IsPermutation-trans live (told ++ are.rest) (first ++ others) are.permutation
      (subst (IsPermutation (told ++ are.rest)) (append_assoc first selected.rest are.rest) (IsPermutation-append_left are.rest told (first ++ selected.rest) selected.permutation))

  cut : IsCut most first selected.rest → length first ≡ most
  cut (inl same) = same
  cut (inr few) = omega (arith, few.0, few.1, enough, length_permutation told (first ++ selected.rest) selected.permutation, length-append first selected.rest)

  before_all : AreBefore first others
  before_all low high a b at_low at_high = elim (in_either selected.rest are.rest high b at_high) [
    | inl near ↦ selected.before low high a b at_low near
    | inr beyond ↦
        let was = moved (first ++ selected.rest) told low a (IsPermutation-sym told (first ++ selected.rest) selected.permutation) (get_left first selected.rest low a at_low) in
        are.before was.0 beyond.0 a b was.1 beyond.1
  ]

  pub AreSelected-first : AreSelected most live first
  AreSelected-first = record {
    rest = others;
    permutation = chosen;
    before = before_all;
    cut = inl (cut selected.cut);
  }

-- so many slots are live at the least, and so many keys
pub least_live_of : (groups : List GroupState) (bytes : List ℕ) → KnowsLeast groups bytes → AreSoundGroups groups → (index byte : ℕ) (group : GroupState) → slice_get bytes index ≡ Some byte
    → slice_get groups index ≡ Some group → least_of byte ≤ live_of group
least_live_of groups bytes known sound index zero group at here = omega arith
least_live_of groups bytes known sound index (suc byte) group at here =
    omega (arith, (known index (suc byte) group at here (omega arith)).1, len-union_of (spans_of group) (sound index group here).apart)

-- ---- a group is told of if it has fewer live keys than the limit, and those are passed by whose bytes say that they have not

module _ (groups : List GroupState) (ascend : Ascend groups) (bound most : ℕ) (told : List LiveGroup) (limit : ℕ) (is : IsLimit bound most (length told) limit) where
  abbrev Telling : ℕ → List LiveGroup → Type 0
  Telling at list = IsTelling bound most (seen_at groups at) list

  left : (at : ℕ) (group : GroupState) → slice_get groups at ≡ Some group → Telling at told → (live_of group < limit → live_of group ≤ 0) → Telling (at + 1) told
  left at group here telling many = elim (cases_lt 0 (live_of group)) [
    | inl some ↦
        subst (λ (list : List LiveGroup). IsTelling bound most list told) (seen-live groups at group here some)
        (IsTelling-left bound most (seen_at groups at) told (told_of group) limit telling is (high some (cases_lt (live_of group) limit)) (lower-seen groups at group here ascend))
    | inr none ↦ subst (λ (list : List LiveGroup). IsTelling bound most list told) (seen-none groups at group here none) telling
  ]
    where
      high : 0 < live_of group → (live_of group < limit) ⊎ (limit ≤ live_of group) → limit ≤ live_of group
      high some (inl low) = omega (arith, some, many low)
      high some (inr enough) = enough

  pub IsTelling-with : (at : ℕ) (group : GroupState) → slice_get groups at ≡ Some group → Telling at told → Telling (at + 1) (with_told told limit (told_of group))
  IsTelling-with at group here telling = elim (cases_lt 0 (live_of group)) [
    | inl some ↦ elim (cases_lt (live_of group) limit) [
      | inl low ↦
          subst (Telling (at + 1)) (sym (chosen (lt-ltb 0 (live_of group) some) (lt-ltb (live_of group) limit low)))
          (subst (λ (list : List LiveGroup). IsTelling bound most list (told ++ told_of group ∷ [])) (seen-live groups at group here some)
          (IsTelling-told bound most (seen_at groups at) told (told_of group) limit telling is low))
      | inr high ↦
          subst (Telling (at + 1)) (sym (chosen (lt-ltb 0 (live_of group) some) (le-ltb (live_of group) limit high)))
          (left at group here telling (λ low. absurd (omega (arith, low, high))))
    ]
    | inr none ↦ subst (Telling (at + 1)) (sym (unchosen (le-ltb 0 (live_of group) none))) (left at group here telling (λ low. none))
  ]
    where
      chosen : {b d : Bool} → is_live (told_of group) ≡ b → nat_lt (live_of group) limit ≡ d → with_told told limit (told_of group) ≡ cond (b && d) (told ++ told_of group ∷ []) told
      chosen some low = rw (some, low) refl

      unchosen : is_live (told_of group) ≡ false → with_told told limit (told_of group) ≡ told
      unchosen none = rw none refl

  module _ (bytes : List ℕ) (known : KnowsLeast groups bytes) (sound : AreSoundGroups groups) (first : ℕ) (telling : Telling first told) where
    pub IsTelling-passed : (end : ℕ) → first ≤ end → end ≤ length groups → end ≤ length bytes → HaveLeast bytes limit first end → Telling end told
    IsTelling-passed zero from within long passed = let same : first ≡ zero = omega (arith, from) in subst (λ (n : ℕ). Telling n told) same telling
    IsTelling-passed (suc end) from within long passed = elim (cases_lt first (suc end)) [
      | inl low ↦
          let before = IsTelling-passed end (omega (arith, low)) (omega (arith, within)) (omega (arith, long)) (λ index byte at less. passed index byte at (omega (arith, less))) in
          let (group, here) = there_at groups end (omega (arith, within)) in
          let (byte, there) = there_at bytes end (omega (arith, long)) in
          let next : end + 1 ≡ suc end = omega arith in
          subst (λ (n : ℕ). Telling n told) next
          (left end group here before
          (λ fewer. absurd (omega (arith, fewer, passed end byte (omega (arith, low)) (omega arith) there, least_live_of groups bytes known sound end byte group there here))))
      | inr past ↦ let same : first ≡ suc end = omega (arith, from, past) in subst (λ (n : ℕ). Telling n told) same telling
    ]
